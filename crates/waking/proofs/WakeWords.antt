-- The slots of a list in words, slot by slot, and how long they and the line of a probe are: by recursion on how many slots there are.
use mathlib.Core.Path.{◌≡◌, refl, sym, ap, ◌∙◌}
use mathlib.Core.Bool.{Bool, cond}
use mathlib.Core.List.{List, [], ◌∷◌, ◌++◌}
use mathlib.Core.Logic.{⊎_elim}
use Prim.Native.Nat.{ℕ, zero, suc, ◌+◌, ◌*◌, ◌≤◌, ◌<◌}
use native.Mathlib.Numerals.{add-one}
use native.Mathlib.Omega.{arith}
use borrow.Author.Tests.{eq-eqb, ne_eqb}
use lib.ListN.{length, length-append}
use Rattle.meaning.specs.Words.{tab}
use Rattle.meaning.specs.Sheet.{two_at}
use Rattle.meaning.specs.Lister.{text, decimal, said, senders_text}
use Rattle.meaning.specs.Book.{slots_text, wake_line}
use Rattle.laws.proofs.Turns.{length-tab, same-or-other}
use Rattle.lines.specs.Fits.{Fits}
use Rattle.lines.proofs.Decimal.{digits-most}
use Rattle.lines.proofs.Lined.{Answered, said-length, sender-length, newline, answered-put}
use Rattle.lines.proofs.Fitting.{put-nothing, put-behind, put_same}
use Rattle.lines.proofs.SendersText.{senders-append, senders-one}

-- the slots of the list at a place
abbrev pub slot_of : List ℕ → ℕ → ℕ → ℕ
slot_of entry at i = two_at entry (at + 2 + 2 * i)

-- the first i slots in words
unfoldable pub first_slots : (ℕ → ℕ) → ℕ → List ℕ
first_slots f i = senders_text (tab i f)

module _ (f : ℕ → ℕ) where
  pub none_said : first_slots f 0 ≡ []
  unfolding first_slots tab senders_text
  none_said = refl

  more-said : (i : ℕ) → first_slots f (suc i) ≡ first_slots f i ++ said "" (f i)
  unfolding first_slots tab
  more-said i = senders-append (tab i f) (f i ∷ []) ∙ ap (λ (l : List ℕ). senders_text (tab i f) ++ l) (senders-one (f i))

  one-said : (i v : ℕ) → v ≡ f i → first_slots f (i + 1) ≡ first_slots f i ++ said "" v
  one-said i v e = ap (first_slots f) (add-one i) ∙ more-said i ∙ ap (λ (k : ℕ). first_slots f i ++ said "" k) (sym e)

  more-long : (i : ℕ) → length (first_slots f (suc i)) ≡ length (first_slots f i) + (1 + length (decimal 5 (f i)))
  more-long i =
      ap length (more-said i)
      ∙ length-append (first_slots f i) (said "" (f i))
      ∙ ap (λ (k : ℕ). length (first_slots f i) + k) (sender-length (f i))

  pub slots-few : (n : ℕ) → length (first_slots f n) ≤ 6 * n
  slots-few zero = omega (arith, ap length none_said)
  slots-few (suc n) = omega (arith, slots-few n, more-long n, digits-most 5 (f n))

  -- the whole list, where it is empty and where it is not
  slots-none : (n : ℕ) → n ≡ 0 → slots_text (tab n f) ≡ text " no slot"
  slots-none n e =
      ap (λ (b : Bool). cond b (text " no slot") (senders_text (tab n f))) (eq-eqb (length (tab n f)) 0 (length-tab n f ∙ e))

  slots-some : (n : ℕ) → (n ≡ 0 → ⊥) → slots_text (tab n f) ≡ first_slots f n
  unfolding first_slots
  slots-some n some =
      ap (λ (b : Bool). cond b (text " no slot") (senders_text (tab n f)))
      (ne_eqb (length (tab n f)) 0 (λ e. some (sym (length-tab n f) ∙ e)))

  none-long : (n : ℕ) → n ≡ 0 → length (slots_text (tab n f)) ≡ 8
  unfolding text
  none-long n e = ap length (slots-none n e)

  pub slots-long : (n : ℕ) → length (slots_text (tab n f)) ≤ 8 + 6 * n
  slots-long n =
      ⊎_elim (λ (e : n ≡ 0). omega (arith, none-long n e))
      (λ (e : n ≡ 0 → ⊥). omega (arith, ap length (slots-some n e), slots-few n))
      (same-or-other n 0)

  -- what the code counts and puts, where it found so many slots
  module _ (n many : ℕ) (is : many ≡ n) where
    slots-whole : (i : ℕ) → (many ≡ 0 → ⊥) → i ≤ many → many ≤ i → first_slots f i ≡ slots_text (tab n f)
    slots-whole i some h l =
        let last : i ≡ n = omega arith in
        ap (first_slots f) last ∙ sym (slots-some n (λ e. some (is ∙ e)))

    pub count_none : many ≡ 0 → 8 ≡ length (slots_text (tab n f))
    count_none e = sym (none-long n (sym is ∙ e))

    pub count-all : (i all : ℕ) → (many ≡ 0 → ⊥) → i ≤ many → many ≤ i → all ≡ length (first_slots f i) → all ≡ length (slots_text (tab n f))
    count-all i all some h l counted = counted ∙ ap length (slots-whole i some h l)

    pub slots-put-none : {l after : List ℕ} {at end : ℕ} → many ≡ 0 → Fits l at (text " no slot") after end → Fits l at (slots_text (tab n f)) after end
    slots-put-none e = put_same (sym (slots-none n (sym is ∙ e)))

    pub slots-put-all : {l after : List ℕ} {at end : ℕ} (i : ℕ) → (many ≡ 0 → ⊥) → i ≤ many → many ≤ i
        → Fits l at (first_slots f i) after end → Fits l at (slots_text (tab n f)) after end
    slots-put-all i some h l = put_same (slots-whole i some h l)

  pub count_next : (i all v d : ℕ) → v ≡ f i → d ≡ length (decimal 5 v) → all ≡ length (first_slots f i) → all + (1 + d) ≡ length (first_slots f (i + 1))
  count_next i all v d e q counted =
      let longer = ap (λ (k : ℕ). length (first_slots f k)) (add-one i) ∙ more-long i in
      omega (arith, longer, q, ap (λ (k : ℕ). length (decimal 5 k)) e, counted)

  -- no slot put yet, and one more behind those that are put
  pub slots-put-start : (l : List ℕ) (at : ℕ) → Fits l at (first_slots f 0) l at
  slots-put-start l at = put_same (sym none_said) (put-nothing l at)

  pub slots-put-next : {l mid after : List ℕ} {at next end : ℕ} (i v : ℕ) → v ≡ f i
      → Fits l at (first_slots f i) mid next → Fits mid next (said "" v) after end → Fits l at (first_slots f (i + 1)) after end
  slots-put-next i v e p q = put_same (sym (one-said i v e)) (put-behind p q)

-- how long the words of the line are
probe-long : length (text "probe") ≡ 5
unfolding text
probe-long = refl

sends-long : length (text " sends in") ≡ 9
unfolding text
sends-long = refl

listens-long : length (text ", listens in") ≡ 12
unfolding text
listens-long = refl

module _ (v : ℕ) (a b : List ℕ) where
  -- the line as far as the first list, and as far as the second
  abbrev to_sends : List ℕ
  to_sends = said "probe" v ++ text " sends in"

  abbrev to_listens : List ℕ
  to_listens = to_sends ++ slots_text a ++ text ", listens in"

  sends-ends : length to_sends ≡ 15 + length (decimal 5 v)
  sends-ends = length-append (said "probe" v) (text " sends in") ∙ (omega (arith, said-length "probe" v, probe-long, sends-long))

  listens-ends : length to_listens ≡ 27 + length (decimal 5 v) + length (slots_text a)
  listens-ends =
      length-append (to_sends ++ slots_text a) (text ", listens in")
      ∙ (omega (arith, length-append to_sends (slots_text a), sends-ends, listens-long))

  wake-long : length (wake_line v a b) ≡ 28 + length (decimal 5 v) + length (slots_text a) + length (slots_text b)
  unfolding wake_line
  wake-long =
      length-append (to_listens ++ slots_text b) (text "\n")
      ∙ (omega (arith, length-append to_listens (slots_text b), listens-ends, newline))

  -- whether the buffer has room, by the bytes that were counted
  module _ (d m n long : ℕ) (count-probe : d ≡ length (decimal 5 v)) (count-a : m ≡ length (slots_text a)) (count-b : n ≡ length (slots_text b)) where
    pub wake-short : long < 28 + d + m + n → long < length (wake_line v a b)
    wake-short h = omega (arith, wake-long)

    pub wake-room : 28 + d + m + n ≤ long → length (wake_line v a b) ≤ long
    wake-room h = omega (arith, wake-long)

  -- the line, where there is room for it
  pub wake-answered : {l after : List ℕ} {end : ℕ} → length (wake_line v a b) ≤ length l
      → Fits l 0 (to_listens ++ slots_text b ++ text "\n") after end → Answered l (wake_line v a b) after end
  unfolding wake_line
  wake-answered {l} room line =
      let all : 0 + length (wake_line v a b) ≤ length l = omega (arith, room) in
      answered-put room (line.put all)
