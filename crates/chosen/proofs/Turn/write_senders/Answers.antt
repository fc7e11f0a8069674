-- `chosen::Turn::write_senders` meets its contract: the first k probes have had their turn, and the senders among them stand behind the count.
use mathlib.Core.Path.{refl, ◌∙◌}
use mathlib.Core.Bool.{Bool, false}
use mathlib.Core.List.{[]}
use Prim.Native.Nat.{ℕ, ◌+◌, ◌<◌}
use lib.ListN.{get_or, length-set}
use Rattle.meaning.specs.Conflict.{entry}
use Rattle.meaning.specs.Rounds.{holds, joined}
use Rattle.chosen.proofs.Free.{free-start, free-says, free-put, next-free}
use Rattle.chosen.proofs.Writing.{writing_start, writing-put, written, fewer, long}
use native.Mathlib.Omega.{arith}
use Rattle.chosen.proofs.Turn.write_senders.Goals as goal

pub loop-j-init : goal.loop-j-init
loop-j-init c =
    let a = c.args in (
      writing_start _ a.self.now.probes a.rest.now (omega (arith, c.args.self.now.few, c.requires.room)),
      free-start (entry a.self.now.table.now) (holds a.self.now.held.now) a.owners.now c.told-owners a.blocked.now _ c.requires.known
          c.free_to_send-free.ensures,
    )

pub overflow_add-n : goal.overflow_add-n
overflow_add-n c =
    let l = c.loop-j in
    omega (arith, fewer _ _ _ _ l.n l.k l.invariant.0)

pub bounds-rest-n : goal.bounds-rest-n
bounds-rest-n c =
    let l = c.loop-j in
    let next = c.in-Some.ensures in
    omega (arith, next.0, next.1.onward, long _ _ _ l.rest _ _ l.invariant.0, l.invariant.0.room, fewer _ _ _ _ l.n l.k l.invariant.0)

pub loop-j-preserved : goal.loop-j-preserved
loop-j-preserved c =
    let l = c.loop-j in
    let a = c.args in
    let j : ℕ = c.in-Some.j in
    let next = c.in-Some.ensures in
    let h : j < a.self.now.probes = next.0 in
    let now = next-free (entry a.self.now.table.now) (holds a.self.now.held.now) a.owners.now c.told-owners a.self.now.probes c.args.self.now.few _ l.rest l.free l.n
    l.k j next.1 l.invariant in
    let small : j + 2 < 65 = omega (arith, c.args.self.now.few) in (
      writing-put _ a.self.now.probes _ l.rest l.n j now.0 h
          (free-says (entry a.self.now.table.now) (holds a.self.now.held.now) a.owners.now c.told-owners j small l.free now.1 a.self.now.probes h ∙ next.1.found h),
      free-put (entry a.self.now.table.now) (holds a.self.now.held.now) a.owners.now c.told-owners j small l.free now.1 (next.1.found h)
          (get_or a.self.now.table.now (j + 2) []) _ (λ v. refl) c.shut.ensures,
    )

pub overflow_cast-rest : goal.overflow_cast-rest
overflow_cast-rest c =
    let l = c.loop-j in
    omega (arith, fewer _ _ _ _ l.n l.k l.invariant.0)

pub bounds-rest-0-2 : goal.bounds-rest-0-2
bounds-rest-0-2 c =
    let l = c.loop-j in
    omega (arith, long _ _ _ l.rest _ _ l.invariant.0, l.invariant.0.room)

pub overflow_add-result : goal.overflow_add-result
overflow_add-result c =
    let l = c.loop-j in
    omega (arith, fewer _ _ _ _ l.n l.k l.invariant.0)

pub shape_of-rest : goal.shape_of-rest
shape_of-rest c =
    let l = c.loop-j in
    simp length-set (long _ _ _ l.rest _ _ l.invariant.0 ∙ simp length-set)

pub returns : goal.returns
returns c =
    let a = c.args in
    let l = c.loop-j in
    let test : ℕ → Bool = λ v. get_or (joined a.self.now.probes (entry a.self.now.table.now) (holds a.self.now.held.now) a.owners.now) v false in
    let now = next-free (entry a.self.now.table.now) (holds a.self.now.held.now) a.owners.now c.told-owners a.self.now.probes c.args.self.now.few _ l.rest l.free l.n
    l.k a.self.now.probes c.in_default.ensures l.invariant in
    written test a.self.now.probes a.rest.now l.rest l.n now.0
