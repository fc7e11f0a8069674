-- `texts::write_graph` meets its contract: the status of what was drawn is that of its answer.
use mathlib.Core.Path.{◌≡◌, refl, ap, ◌∙◌, subst}
use Prim.Native.Nat.{ℕ}
use Rattle.std.specs.Prelude.{Result, Ok, Err}
use Rattle.meaning.specs.declared.Refusal.{Refusal}
use Rattle.graph.specs.Drawing.{Drawn, drawn_answer}
use Rattle.files.specs.Status.{Status, status_of, status_by, OrFailed}
use Rattle.files.proofs.Statuses.{refused-status}
use Rattle.texts.proofs.write_graph.Goals as goal

drawn-status : (made : Result ℕ Refusal) → status_by made ≡ status_of (drawn_answer made).outcome
drawn-status (Ok _) = refl
drawn-status (Err refusal) = refused-status refusal

pub returns : goal.returns
returns c =
    subst (λ (s : Status). OrFailed s c.say_answer.result)
    (drawn-status c.graph_made-drawn.result ∙ ap (λ (d : Drawn). status_of d.outcome) c.graph_made-drawn.ensures.answer) c.say_answer.ensures
