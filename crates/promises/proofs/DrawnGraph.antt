-- The writer's three cases, as its contract says them: what is made decides the answer and the buffer.
use mathlib.Core.Path.{◌≡◌, ap}
use Prim.Native.Nat.{◌≤◌, ◌<◌}
use lib.ListN.{length}
use Rattle.meaning.specs.Words.{Bytes}
use Rattle.meaning.specs.Plan.{front}
use Rattle.meaning.specs.Answer.{accepted, sheet_test}
use Rattle.graph.specs.Drawing.{GraphMade, graph_text, graph_made}
use Rattle.readback.proofs.Drawn.{made-whole, made-refused, made-short}
use Rattle.promises.specs.Answers.{Accepted, Refused}
use Rattle.promises.specs.Graphs.{Draws}

module _ (s buffer : Bytes) where
  of-made : (made : GraphMade) → graph_made s (length buffer) ≡ made → Draws s buffer made.answer (front buffer made.written)
  of-made made is = (ap (λ (m : GraphMade). m.answer) is, ap (λ (m : GraphMade). front buffer m.written) is)

  pub draws : Accepted s → length (graph_text s) ≤ length buffer
      → Draws s buffer (record { outcome = accepted; bytes = length (graph_text s) }) (front buffer (graph_text s))
  draws ok fits = of-made _ (made-whole s (length buffer) ok fits)

  pub draws-nothing : Refused s → Draws s buffer (record { outcome = sheet_test s; bytes = 0 }) buffer
  draws-nothing refused = of-made _ (made-refused s (length buffer) refused)

  pub draws-short : Accepted s → length buffer < length (graph_text s)
      → Draws s buffer (record { outcome = record { number = 21; place = 0 }; bytes = 0 }) buffer
  draws-short ok short = of-made _ (made-short s (length buffer) ok short)
