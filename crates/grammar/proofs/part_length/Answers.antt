-- `grammar::part_length` meets its contract: the library's law of a first index, with what a mark and any other byte do to the length.
use Rattle.std.proofs.Common.{◌≡◌, ◌≢◌, ℕ, List, length, sym, ◌∙◌, tests, rules}
use Rattle.std.proofs.lemmas.Iterator.{YieldsList-from_slice, IsFirst-from_position, index_from_first}
use Rattle.graph.specs.Part.{part}
use Rattle.grammar.proofs.Words.{nothing, mark-ends, other-passes}
use Rattle.grammar.proofs.part_length.Goals as goal

pub returns : goal.returns
returns c =
    let mark = c.args.mark in
    let first = IsFirst-from_position _ _ _ (λ (byte : ℕ). byte ≡ mark) (λ (byte : ℕ). byte ≢ mark) c.position.ensures.ran (YieldsList-from_slice c.args.bytes.now cc) (λ x q k. search (rules, tests)) (λ x q k. search (rules, tests)) in
    let long = index_from_first (λ (u : List ℕ). length (part mark 0 u)) (λ (byte : ℕ). byte ≡ mark) (λ (byte : ℕ). byte ≢ mark) (nothing mark) (mark-ends mark) (other-passes mark) c.args.bytes.now _ first in
    c.unwrap_or.ensures ∙ sym long
