-- `grammar::word` meets its contract: the word is the piece at k of those that `split` gives, and nothing where there is none.
use Rattle.std.proofs.Common.{◌≡◌, ◌∙◌, refl, ap, ℕ, List, [], eqb, Bor, Option, None, Some, tests, rules}
use Rattle.std.specs.Option.{unwrap_or, option_map}
use Rattle.std.specs.List.{slice_split}
use Rattle.std.proofs.lemmas.Option.{unwrap_or-slice_get}
use Rattle.std.proofs.lemmas.Iterator.Consumers.{nth_from_yields_List}
use Rattle.std.proofs.lemmas.Iterator.Splits.{YieldsList-from_slice_split}
use Rattle.graph.specs.Part.{space}
use Rattle.grammar.proofs.Words.{piece}
use Rattle.grammar.proofs.word.Goals as goal

now_or : (r : Option (Bor (List ℕ))) (none : Bor (List ℕ)) → (unwrap_or r none).now ≡ unwrap_or (option_map (λ (x : Bor (List ℕ)). x.now) r) none.now
now_or None none = refl
now_or (Some x) none = refl

pub returns : goal.returns
returns c =
    let line = c.args.line.now in
    let pieces = slice_split (λ (byte : ℕ). eqb byte space) line in
    let at = nth_from_yields_List _ _ c.args.k c.nth.ensures.ran (YieldsList-from_slice_split _ (λ (byte : ℕ). eqb byte space) line (cc) (cc) (cc) (λ x b q k. search (rules, tests))) in
    ap (λ (r : Bor (List ℕ)). r.now) c.unwrap_or.ensures ∙ now_or c.nth.result _
    ∙ ap (λ (r : Option (List ℕ)). unwrap_or r []) at ∙ unwrap_or-slice_get pieces c.args.k [] ∙ piece space c.args.k line
