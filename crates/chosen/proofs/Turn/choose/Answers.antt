-- `chosen::Turn::choose` meets its contract: where no flag is up there is no owner, and otherwise the owners are those taken one by one.
use mathlib.Core.Path.{sym, ap, ◌∙◌, subst}
use mathlib.Core.Bool.{Bool}
use mathlib.Core.List.{List}
use Rattle.meaning.specs.Conflict.{entry}
use Rattle.chosen.specs.Kept.{flag, blocked_by, Joining}
use Rattle.chosen.proofs.FirstTaken.{unblocked, chosen-nobody, chosen-first}
use Rattle.chosen.proofs.Turn.choose.Goals as goal

pub returns-then-not-any_of : goal.returns-then-not-any_of
returns-then-not-any_of c =
    let a = c.args in
    let mine = c.owning-mine in
    chosen-nobody a.self.now.probes c.args.self.now.few a.self.now.table.now a.own.now a.s.0 a.self.now.held.now mine.result mine.ensures
    (sym c.any_of.ensures ∙ c.if-not-any_of.true) _ _

pub join-requires : goal.join-requires
join-requires c =
    let fresh = c.requires.fresh in
    c.requires.free ∙ unblocked _ ∙ ap (blocked_by (entry c.args.self.now.table.now)) (sym fresh)

pub returns : goal.returns
returns c =
    let a = c.args in
    let mine = c.owning-mine in
    let join = c.join in
    chosen-first a.self.now.probes c.args.self.now.few a.self.now.table.now a.own.now a.s.0 a.self.now.held.now mine.result mine.ensures _ _
    (subst (λ (l : List Bool). Joining (entry a.self.now.table.now) (flag mine.result) l a.self.now.probes join.new.chosen join.new.blocked) c.requires.fresh join.ensures)
    _ c.any_of-2.ensures
