-- What the maker of books answers, stage by stage as the code takes it: the judge's refusal, then 22, then the book. What is read of an accepted sheet
-- is the sheet's own, so that the layout is the one that the main law speaks of.
use mathlib.Core.Path.{◌≡◌, refl, sym, ap, ap₂, ◌∙◌}
use mathlib.Core.Bool.{Bool, true, false, cond}
use mathlib.Core.List.{List, []}
use Prim.Native.Nat.{ℕ, ◌+◌, ◌*◌, ◌≤◌, ◌<◌}
use native.Mathlib.Omega.{arith}
use borrow.Author.Tests.{lt-ltb, le-ltb, eq-eqb, ne_eqb}
use lib.Dec.{ltb}
use lib.ListN.{length, get_or}
use Rattle.meaning.specs.declared.Mode.TheVariants.{Packets}
use Rattle.meaning.specs.Returned.{Booked}
use Rattle.meaning.specs.declared.Judgement.{Judgement}
use Rattle.meaning.specs.declared.Names.{Names}
use Rattle.meaning.specs.declared.Outcome.{Outcome}
use Rattle.meaning.specs.declared.Verdict.{Verdict}
use Rattle.meaning.specs.Words.{places, tab, by_node}
use Rattle.meaning.specs.Yard.{is_probe}
use Rattle.meaning.specs.Sheet.{two_at, probe_count, parent_of, packets_of}
use Rattle.meaning.specs.Plan.{slots_from, front}
use Rattle.meaning.specs.Answer.{accepted, is_accepted, given, ◌then◌, sheet_test}
use Rattle.meaning.specs.Judge.{judge_in, judge, judgement_in, judgement}
use Rattle.meaning.specs.Legal.{Good}
use Rattle.meaning.specs.Book.{wake_book, BookMade, book_made}
use Rattle.laws.proofs.Turns.{for_each-same, get_or-tab}
use Rattle.laws.proofs.Walk.{probe-most}
use Rattle.laws.proofs.Accepted.{then-stays, then-goes}
use Rattle.laws.proofs.Grounds.{few-probes, parent-node}
use Rattle.laws.proofs.Exact.{good-passed}
use Rattle.sheet.specs.declared.Tree.{Tree}
use Rattle.sheet.specs.Tree.{tree_of}
use Rattle.sheet.proofs.Standing.{Standing, standing, parents-read, of_tree}
use Rattle.reader.specs.Noted.{noted_slots}
use Rattle.book.specs.Layout.{sends_at, sends_of, hears_of, begun, all_begun, refused_book}
use Rattle.book.proofs.BookFilled.{book-bytes, book-filled}

-- what is made of an outcome: a book, or a refusal
abbrev made_of : Outcome → Names → (book : List ℕ) → BookMade
made_of outcome names book =
    cond (is_accepted outcome)
    (record { answer = record { outcome = outcome; names = names; bytes = length book }; written = book })
    (record { answer = refused_book outcome names; written = [] })

-- an answer, and what the buffer has before and after
abbrev pub Answered : (s plan : List ℕ) → (r : Booked) → (before after : List ℕ) → Type 0
Answered s plan r before after =
    (r ≡ (book_made s plan (length before)).answer) × (after ≡ front before (book_made s plan (length before)).written)

-- lists begin alike where the places of each probe are the same
begun-same : (p : ℕ) (sends sends' hears hears' : ℕ → ℕ) (book : List ℕ) → ((k : ℕ) → k < p → sends (k + 2) ≡ sends' (k + 2))
    → ((k : ℕ) → k < p → hears (k + 2) ≡ hears' (k + 2)) → all_begun p sends hears book ≡ all_begun p sends' hears' book
unfolding all_begun
begun-same p sends sends' hears hears' book e q =
    for_each-same p (λ k now. begun (hears (k + 2)) (begun (sends (k + 2)) now)) (λ k now. begun (hears' (k + 2)) (begun (sends' (k + 2)) now)) book
    (λ k h now. ap₂ (λ (x y : ℕ). begun x (begun y now)) (q k h) (e k h))

module _ (s plan : List ℕ) (judged : Judgement) (is : judged ≡ judgement s plan) where
  -- the outcome behind the test of the room
  abbrev behind : (room : ℕ) → Outcome
  behind room = judged.verdict.outcome then given 22 0 (ltb room (length (wake_book s plan)))

  made : (room : ℕ) → made_of (behind room) judged.names (wake_book s plan) ≡ book_made s plan room
  unfolding book_made
  made room =
      ap
      (λ (j : Judgement).
      made_of (j.verdict.outcome then given 22 0 (ltb room (length (wake_book s plan)))) j.names (wake_book s plan))
      is

  -- a refusal leaves the buffer as it was
  refuses : (r : Booked) (book : List ℕ) (o : Outcome) → behind (length book) ≡ o → is_accepted o ≡ false → r ≡ refused_book o judged.names
      → Answered s plan r book book
  refuses r book o e refused answer =
      let whole : record { answer = refused_book o judged.names; written = [] } ≡ book_made s plan (length book) =
      ap
      (λ (b : Bool).
      cond b
      (record { answer = record { outcome = o; names = judged.names; bytes = length (wake_book s plan) }; written = wake_book s plan })
      (record { answer = refused_book o judged.names; written = [] }))
      (sym refused)
      ∙ ap (λ (x : Outcome). made_of x judged.names (wake_book s plan)) (sym e)
      ∙ made (length book) in
      (answer ∙ ap (λ (m : BookMade). m.answer) whole, ap (λ (m : BookMade). front book m.written) whole)

  pub judge-refuses : (r : Booked) (book : List ℕ) → (judged.verdict.outcome.number ≡ 0 → ⊥) → r ≡ refused_book judged.verdict.outcome judged.names
      → Answered s plan r book book
  judge-refuses r book some answer =
      let refused = ne_eqb judged.verdict.outcome.number 0 some in
      refuses r book judged.verdict.outcome (then-stays judged.verdict.outcome _ refused) refused answer

  module _ (exact : is_accepted judged.verdict.outcome ≡ true → Good s plan) (none : judged.verdict.outcome.number ≡ 0) where
    passes : is_accepted judged.verdict.outcome ≡ true
    passes = eq-eqb judged.verdict.outcome.number 0 none

    verdict : judged.verdict ≡ judge s plan
    unfolding judgement_in
    verdict = ap (λ (j : Judgement). j.verdict) is

    clean : judged.verdict.outcome ≡ accepted
    clean = ap (λ (v : Verdict). v.outcome) (verdict ∙ good-passed Packets s plan (exact passes))

    passed : is_accepted (judge s plan).outcome ≡ true
    passed = ap (λ (v : Verdict). is_accepted v.outcome) (sym verdict) ∙ passes

    slots : judged.verdict.slots ≡ two_at plan 0
    unfolding judge_in
    slots = ap (λ (v : Verdict). v.slots) verdict ∙ ap (λ (b : Bool). cond b (two_at plan 0) 0) passed

    pub ok : is_accepted (sheet_test s) ≡ true
    ok = (exact passes).sheet

    module _ (tree : Tree) (read : tree ≡ tree_of s) where
      its : Standing s tree
      its = standing s ok tree read

      pub few : tree.probes ≤ 63
      few = omega (arith, its.probes, few-probes s ok)

      module _ (bytes : ℕ) (laid : bytes ≡ sends_at tree.probes (by_node tree.parents) (by_node tree.packets) tree.probes) where
        from-sheet : bytes ≡ sends_at (probe_count s) (parent_of s) (packets_of s) (probe_count s)
        from-sheet = laid ∙ of_tree s ok tree its (λ p parent packets. sends_at p parent packets p)

        all-bytes : bytes ≡ length (wake_book s plan)
        all-bytes = from-sheet ∙ sym (book-bytes s plan passed)

        -- 22
        pub no_room : (r : Booked) (book : List ℕ) → length book < bytes → r ≡ refused_book (record { number = 22; place = 0 }) judged.names
            → Answered s plan r book book
        no_room r book short =
            refuses r book (record { number = 22; place = 0 })
            (then-goes judged.verdict.outcome _ passes
            ∙ ap (λ (b : Bool). given 22 0 b) (lt-ltb (length book) (length (wake_book s plan)) (omega (arith, all-bytes))))
            refl

        module _ (book : List ℕ) (room : bytes ≤ length book) where
          abbrev sends_in : ℕ → ℕ
          sends_in = sends_of (probe_count s) (parent_of s) (packets_of s) (length book)

          abbrev hears_in : ℕ → ℕ
          hears_in = hears_of (probe_count s) (parent_of s) (packets_of s) (length book)

          -- the whole book
          written : (after : List ℕ) → after ≡ front book (wake_book s plan)
              → Answered s plan (record { outcome = judged.verdict.outcome; names = judged.names; bytes = bytes }) book after
          written after e =
              let fits : behind (length book) ≡ accepted =
              then-goes judged.verdict.outcome _ passes
              ∙ ap (λ (b : Bool). given 22 0 b) (le-ltb (length book) (length (wake_book s plan)) (omega (arith, all-bytes))) in
              let whole = ap (λ (o : Outcome). made_of o judged.names (wake_book s plan)) (sym fits) ∙ made (length book) in (
                ap₂ (λ (o : Outcome) (n : ℕ). record { outcome = o; names = judged.names; bytes = n }) clean all-bytes ∙ ap (λ (m : BookMade). m.answer) whole,
                e ∙ ap (λ (m : BookMade). front book m.written) whole,
              )

          module _ (sends hears at between after : List ℕ)
              (sends-laid : sends ≡ tab places (sends_of tree.probes (by_node tree.parents) (by_node tree.packets) (length book)))
              (hears-laid : hears ≡ tab places (hears_of tree.probes (by_node tree.parents) (by_node tree.packets) (length book)))
              (begins : between ≡ all_begun tree.probes (by_node sends) (by_node hears) book)
              (own : (v : ℕ) → v < 65 → get_or at (2 * v) 0 ≡ get_or sends v 0)
              (up : (v : ℕ) → v < 65 → get_or at (2 * v + 1) 0 ≡ get_or hears (get_or tree.parents v 0) 0)
              (noted : after ≡ noted_slots at 1 (slots_from plan 2 judged.verdict.slots) between) where
            -- a place by node is the sheet's
            sends-at : (v : ℕ) → v < places → get_or sends v 0 ≡ sends_in v
            sends-at v h =
                ap (λ (l : List ℕ). get_or l v 0) (sends-laid ∙ of_tree s ok tree its (λ p parent packets. tab places (sends_of p parent packets (length book))))
                ∙ get_or-tab places sends_in v 0 h

            hears-at : (v : ℕ) → v < places → get_or hears v 0 ≡ hears_in v
            hears-at v h =
                ap (λ (l : List ℕ). get_or l v 0) (hears-laid ∙ of_tree s ok tree its (λ p parent packets. tab places (hears_of p parent packets (length book))))
                ∙ get_or-tab places hears_in v 0 h

            node : (v : ℕ) → is_probe (probe_count s) v ≡ true → v < places
            node v h = omega (arith, probe-most (probe_count s) v h, few-probes s ok)

            parent-at : (v : ℕ) → get_or tree.parents v 0 ≡ parent_of s v
            parent-at v = ap (λ (f : ℕ → ℕ). f v) (parents-read s ok tree its)

            filled : after ≡ front book (wake_book s plan)
            filled =
                noted
                ∙ ap₂ (λ (n : ℕ) (l : List ℕ). noted_slots at 1 (slots_from plan 2 n) l) slots
                (begins ∙ ap (λ (p : ℕ). all_begun p (by_node sends) (by_node hears) book) its.probes
                ∙ begun-same (probe_count s) (by_node sends) sends_in (by_node hears) hears_in book (λ k h. sends-at (k + 2) (omega (arith, few-probes s ok)))
                (λ k h. hears-at (k + 2) (omega (arith, few-probes s ok))))
                ∙ book-filled s plan passed book at (λ v h. own v (node v h) ∙ sends-at v (node v h))
                (λ v h.
                up v (node v h) ∙ ap (λ (u : ℕ). get_or hears u 0) (parent-at v)
                ∙ hears-at (parent_of s v) (parent-node s ok v h))
                (omega (arith, from-sheet))

            pub book-written : Answered s plan (record { outcome = judged.verdict.outcome; names = judged.names; bytes = bytes }) book after
            book-written = written after filled
