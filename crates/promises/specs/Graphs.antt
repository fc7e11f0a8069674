-- The words of the page of promises for graphs: what `draw::graph_made` answers and leaves behind; `parse::graph_read` answers `graph_read`.
use Rattle.std.specs.Prelude.{◌≡◌, length, take}
use Rattle.meaning.specs.Words.{Bytes}
use Rattle.meaning.specs.Plan.{front}
use Rattle.graph.specs.Drawing.{Drawn, graph_made}

-- it answers this and leaves the buffer so
abbrev pub Draws : (s buffer : Bytes) → Drawn → Bytes → Type 0
Draws s buffer r left = ((graph_made s (length buffer)).answer ≡ r) × (front buffer (graph_made s (length buffer)).written ≡ left)

-- the text that it wrote: the first bytes of the buffer, as many as it answers
abbrev pub text_of : (s buffer : Bytes) → Bytes
text_of s buffer = take (graph_made s (length buffer)).answer.bytes (front buffer (graph_made s (length buffer)).written)
