-- Laws of laying out a book: a list by node is filled probe by probe, and the places by sender two at a time.
use mathlib.Core.Path.{◌≡◌, refl, sym, ap, ap₂, ◌∙◌, subst}
use mathlib.Core.Bool.{Bool, true, false, cond}
use mathlib.Core.List.{List}
use mathlib.Core.Logic.{⊎_elim}
use Prim.Native.Nat.{ℕ, ◌+◌, ◌-◌, ◌*◌, ◌≤◌, ◌<◌}
use native.Mathlib.Decide.{dec_lt}
use native.Mathlib.Omega.{arith}
use lib.Dec.{leb}
use lib.ListN.{length, get_or, set, replicate, length-set, get_or-map, get_or-replicate, get_or-eq_default}
use lib.Seq.{get_or-set_same, get_or-set_other, ext_get_or}
use Rattle.std.proofs.lemmas.List.{map-set}
use borrow.Author.Tests.{le-leb, lt-leb}
use Rattle.meaning.specs.Words.{Node, places, tab, sum}
use Rattle.meaning.specs.Yard.{is_probe, branch_packets}
use Rattle.laws.proofs.Turns.{below-or-last, for_each-one, sum_one, length-tab, get_or-tab, set-tab}
use Rattle.laws.proofs.Walk.{probe-yes, probe-below, probe-past}
use Rattle.reader.specs.Noted.{two_set}
use Rattle.book.specs.declared.Lists.{Lists}
use Rattle.book.specs.Layout.{all_sends, all_hears, sendings, hearings, sends_at, hears_at, sends_of, hears_of, begun, all_begun}

-- by node, what the first k probes have; what is no probe, or comes later, has `end`
abbrev pub so_far : (k : ℕ) → (f : ℕ → ℕ) → (end : ℕ) → Node → ℕ
so_far k f end v = cond (is_probe k v) (f (v - 2)) end

-- one probe more changes no other node
same-probe : (k j : ℕ) → (j ≡ k + 2 → ⊥) → is_probe (k + 1) j ≡ is_probe k j
same-probe k j other = low (dec_lt j 2)
  where
    high : 2 ≤ j → Dec (j < k + 2) → is_probe (k + 1) j ≡ is_probe k j
    high h (yes l) = probe-yes (k + 1) j h (omega arith) ∙ sym (probe-yes k j h (omega arith))
    high h (no l) = probe-past (k + 1) j (omega arith) ∙ sym (probe-past k j (omega arith))

    low : Dec (j < 2) → is_probe (k + 1) j ≡ is_probe k j
    low (yes l) = probe-below (k + 1) j l ∙ sym (probe-below k j l)
    low (no l) = high (omega arith) (dec_lt j (k + 2))

no_probe : (v : ℕ) → is_probe 0 v ≡ false
no_probe v = go (dec_lt v 2)
  where
    go : Dec (v < 2) → is_probe 0 v ≡ false
    go (yes l) = probe-below 0 v l
    go (no l) = probe-past 0 v (omega arith)

so-far-start : (f : ℕ → ℕ) (end : ℕ) → replicate places end ≡ tab places (so_far 0 f end)
so-far-start f end =
    ext_get_or 0 (replicate places end) (tab places (so_far 0 f end)) (sym (length-tab places (so_far 0 f end)))
    (λ i h.
    get_or-replicate places i end 0 h ∙ ap (λ (b : Bool). cond b (f (i - 2)) end) (sym (no_probe i))
    ∙ sym (get_or-tab places (so_far 0 f end) i 0 h))

so-far-next : (k : ℕ) (f : ℕ → ℕ) (end a : ℕ) (l : List ℕ) → k + 2 < places → a ≡ f k → l ≡ tab places (so_far k f end)
    → set l (k + 2) a ≡ tab places (so_far (k + 1) f end)
so-far-next k f end a l h e so =
    let back : k + 2 - 2 ≡ k = omega arith in
    ap (λ (m : List ℕ). set m (k + 2) a) so
    ∙ set-tab places (so_far k f end) (so_far (k + 1) f end) (k + 2) a 0 h
    (ap (λ (b : Bool). cond b (f (k + 2 - 2)) end) (probe-yes (k + 1) (k + 2) (omega arith) (omega arith)) ∙ ap f back ∙ sym e)
    (λ j other. ap (λ (b : Bool). cond b (f (j - 2)) end) (same-probe k j other))

-- the lists of the first k probes, and where the next entry begins, which no book is too long for
pub record Laid (p : ℕ) (parent packets : Node → ℕ) (end k : ℕ) (sends hears : List ℕ) (at : ℕ) : Type 0 where
  pub within : k ≤ p
  pub small : at ≤ 262144 * k
  pub next : at ≡ sends_at p parent packets k
  pub own : sends ≡ tab places (so_far k (sends_at p parent packets) end)
  pub heard : hears ≡ tab places (so_far k (hears_at p parent packets) end)

pub laid-start : (p : ℕ) (parent packets : Node → ℕ) (end : ℕ) → Laid p parent packets end 0 (replicate places end) (replicate places end) 0
unfolding sum
laid-start p parent packets end =
    record {
      within = omega arith;
      small = omega arith;
      next = refl;
      own = so-far-start (sends_at p parent packets) end;
      heard = so-far-start (hears_at p parent packets) end;
    }

pub laid_next : (p : ℕ) (parent packets : Node → ℕ) (end k : ℕ) (sends hears : List ℕ) (at s h : ℕ) → Laid p parent packets end k sends hears at
    → k < p → p ≤ 63 → s < 65536 → s ≡ branch_packets p parent packets (k + 2) → h ≡ s - packets (k + 2)
    → Laid p parent packets end (k + 1) (set sends (k + 2) at) (set hears (k + 2) (at + 2 + 2 * s)) (at + (4 + 2 * s + 2 * h))
laid_next p parent packets end k sends hears at s h b low few fits es eh =
    let entry : 4 + 2 * sendings p parent packets (k + 2) + 2 * hearings p parent packets (k + 2) ≡ 4 + 2 * s + 2 * h =
    ap₂ (λ (a c : ℕ). 4 + 2 * a + 2 * c) (sym es) (sym (eh ∙ ap (λ (a : ℕ). a - packets (k + 2)) es)) in
    let one = sum_one k (λ j. 4 + 2 * sendings p parent packets (j + 2) + 2 * hearings p parent packets (j + 2)) in
    record {
      within = omega arith;
      small = omega (arith, b.small);
      next = together at (4 + 2 * s + 2 * h) s h b.next refl ∙ ap (λ (e : ℕ). sends_at p parent packets k + e) (sym entry) ∙ sym one;
      own = so-far-next k (sends_at p parent packets) end at sends (omega arith) b.next b.own;
      heard = so-far-next k (hears_at p parent packets) end (at + 2 + 2 * s) hears (omega arith)
          (ap₂ (λ (a c : ℕ). a + 2 + 2 * c) b.next es) b.heard;
    }
  where
    together : (a e s h : ℕ) {t : ℕ} → a ≡ t → e ≡ 4 + 2 * s + 2 * h → a + (4 + 2 * s + 2 * h) ≡ t + e
    together a e s h p q = omega arith

-- the same of lists that stand side by side
pub laid-more : (p : ℕ) (parent packets : Node → ℕ) (end k : ℕ) (lists : List Lists) (at s h : ℕ)
    → Laid p parent packets end k (all_sends lists) (all_hears lists) at → k < p → p ≤ 63 → s < 65536 → s ≡ branch_packets p parent packets (k + 2)
    → h ≡ s - packets (k + 2)
    → Laid p parent packets end (k + 1) (all_sends (set lists (k + 2) (record { sends = at; hears = at + 2 + 2 * s })))
    (all_hears (set lists (k + 2) (record { sends = at; hears = at + 2 + 2 * s }))) (at + (4 + 2 * s + 2 * h))
laid-more p parent packets end k lists at s h b low few fits es eh =
    let put : Lists = record { sends = at; hears = at + 2 + 2 * s } in
    let next : ℕ = at + (4 + 2 * s + 2 * h) in
    subst (λ (l : List ℕ). Laid p parent packets end (k + 1) l (all_hears (set lists (k + 2) put)) next)
    (sym (map-set (λ (l : Lists). l.sends) lists (k + 2) put))
    (subst (λ (l : List ℕ). Laid p parent packets end (k + 1) (set (all_sends lists) (k + 2) at) l next)
    (sym (map-set (λ (l : Lists). l.hears) lists (k + 2) put))
    (laid_next p parent packets end k (all_sends lists) (all_hears lists) at s h b low few fits es eh))

pub laid-all : (p : ℕ) (parent packets : Node → ℕ) (end k : ℕ) (sends hears : List ℕ) (at : ℕ) → Laid p parent packets end k sends hears at → p ≤ k
    → Laid p parent packets end p sends hears at
laid-all p parent packets end k sends hears at b h =
    let all : k ≡ p = omega (arith, b.within) in
    subst (λ (i : ℕ). Laid p parent packets end i sends hears at) all b

pub laid-sends : (p : ℕ) (parent packets : Node → ℕ) (end : ℕ) (sends hears : List ℕ) (at : ℕ) → Laid p parent packets end p sends hears at
    → sends ≡ tab places (sends_of p parent packets end)
unfolding sends_of
laid-sends p parent packets end sends hears at b = b.own

pub laid-hears : (p : ℕ) (parent packets : Node → ℕ) (end : ℕ) (sends hears : List ℕ) (at : ℕ) → Laid p parent packets end p sends hears at
    → hears ≡ tab places (hears_of p parent packets end)
unfolding hears_of
laid-hears p parent packets end sends hears at b = b.heard

-- a list begins only where it has room, and leaves a buffer as long as it was
pub no-begin : (place : ℕ) (book : List ℕ) → length book < place + 2 → begun place book ≡ book
unfolding begun
no-begin place book h = rw (lt-leb (place + 2) (length book) h)

pub begin-there : (place : ℕ) (book : List ℕ) → place + 2 ≤ length book → begun place book ≡ two_set place 0 book
unfolding begun
begin-there place book h = rw (le-leb (place + 2) (length book) h)

pub begun-long : (place : ℕ) (book : List ℕ) → length (begun place book) ≡ length book
unfolding begun
begun-long place book = go (leb (place + 2) (length book))
  where
    go : (b : Bool) → length (cond b (two_set place 0 book) book) ≡ length book
    go true = simp length-set
    go false = refl

-- where the lists of a node stand
pub sends-of : (lists : List Lists) (v : ℕ) → get_or (all_sends lists) v 0 ≡ (get_or lists v (record { sends = 0; hears = 0 })).sends
sends-of lists v = get_or-map (λ (l : Lists). l.sends) lists v (record { sends = 0; hears = 0 })

pub hears-of : (lists : List Lists) (v : ℕ) → get_or (all_hears lists) v 0 ≡ (get_or lists v (record { sends = 0; hears = 0 })).hears
hears-of lists v = get_or-map (λ (l : Lists). l.hears) lists v (record { sends = 0; hears = 0 })

-- both lists of one probe more
pub begin-next : (sends hears : Node → ℕ) (k : ℕ) (start book between after : List ℕ) → book ≡ all_begun k sends hears start
    → between ≡ begun (sends (k + 2)) book → after ≡ begun (hears (k + 2)) between → after ≡ all_begun (k + 1) sends hears start
unfolding all_begun
begin-next sends hears k start book between after so one two =
    two ∙ ap (begun (hears (k + 2))) (one ∙ ap (begun (sends (k + 2))) so)
    ∙ sym (for_each-one k (λ j now. begun (hears (j + 2)) (begun (sends (j + 2)) now)) start)

-- the places by sender, as far as node v: behind that there is nothing yet
pub record Told (parents sends hears : List ℕ) (v : ℕ) (at : List ℕ) : Type 0 where
  pub within : v ≤ 65
  pub long : length at ≡ 130
  pub own : (u : ℕ) → u < v → get_or at (2 * u) 0 ≡ get_or sends u 0
  pub up : (u : ℕ) → u < v → get_or at (2 * u + 1) 0 ≡ get_or hears (get_or parents u 0) 0
  pub none : (j : ℕ) → 2 * v ≤ j → get_or at j 0 ≡ 0

pub told-start : (parents sends hears : List ℕ) → Told parents sends hears 0 (replicate 130 0)
told-start parents sends hears =
    record {
      within = omega arith;
      long = refl;
      own = λ u h. absurd (omega arith);
      up = λ u h. absurd (omega arith);
      none = λ j h. go j (dec_lt j 130);
    }
  where
    go : (j : ℕ) → Dec (j < 130) → ◌≡◌ {A = ℕ} (get_or (replicate 130 0) j 0) 0
    go j (yes l) = get_or-replicate 130 j 0 0 l
    go j (no l) = let past : length {A = ℕ} (replicate 130 0) ≤ j = omega arith in get_or-eq_default (replicate 130 0) 0 past

module _ (parents sends hears : List ℕ) (v : ℕ) (at : List ℕ) (b : Told parents sends hears v at) (h : v < 65) where
  -- the two places of node v are put, and no other is changed
  told-next : (l : List ℕ) → length l ≡ 130 → get_or l (2 * v) 0 ≡ get_or sends v 0 → get_or l (2 * v + 1) 0 ≡ get_or hears (get_or parents v 0) 0
      → ((j : ℕ) → (j ≡ 2 * v → ⊥) → (j ≡ 2 * v + 1 → ⊥) → get_or l j 0 ≡ get_or at j 0) → Told parents sends hears (v + 1) l
  told-next l long own up other =
      record {
        within = omega arith;
        long = long;
        own = λ u hu.
            ⊎_elim (λ (low : u < v). other (2 * u) (λ e. omega arith) (λ e. omega arith) ∙ b.own u low)
            (λ (e : u ≡ v). subst (λ (w : ℕ). get_or l (2 * w) 0 ≡ get_or sends w 0) (sym e) own)
            (below-or-last u v (omega arith));
        up = λ u hu.
            ⊎_elim (λ (low : u < v). other (2 * u + 1) (λ e. omega arith) (λ e. omega arith) ∙ b.up u low)
            (λ (e : u ≡ v). subst (λ (w : ℕ). get_or l (2 * w + 1) 0 ≡ get_or hears (get_or parents w 0) 0) (sym e) up)
            (below-or-last u v (omega arith));
        none = λ j hj. other j (λ e. omega arith) (λ e. omega arith) ∙ b.none j (omega arith);
      }

  pub told-both : Told parents sends hears (v + 1) (set (set at (2 * v) (get_or sends v 0)) (2 * v + 1) (get_or hears (get_or parents v 0) 0))
  told-both =
      let first = set at (2 * v) (get_or sends v 0) in
      let long : length first ≡ 130 = length-set at (2 * v) (get_or sends v 0) ∙ b.long in
      told-next (set first (2 * v + 1) (get_or hears (get_or parents v 0) 0)) (length-set first (2 * v + 1) (get_or hears (get_or parents v 0) 0) ∙ long)
      (get_or-set_other first (2 * v + 1) (2 * v) (get_or hears (get_or parents v 0) 0) 0 (λ e. omega arith)
      ∙ get_or-set_same at (2 * v) (get_or sends v 0) 0 (omega (arith, b.long)))
      (get_or-set_same first (2 * v + 1) (get_or hears (get_or parents v 0) 0) 0 (omega arith))
      (λ j left right.
      get_or-set_other first (2 * v + 1) j (get_or hears (get_or parents v 0) 0) 0 right ∙ get_or-set_other at (2 * v) j (get_or sends v 0) 0 left)

  -- a parent that is no node hears nowhere
  pub told-own : get_or hears (get_or parents v 0) 0 ≡ 0 → Told parents sends hears (v + 1) (set at (2 * v) (get_or sends v 0))
  told-own nowhere =
      told-next (set at (2 * v) (get_or sends v 0)) (length-set at (2 * v) (get_or sends v 0) ∙ b.long)
      (get_or-set_same at (2 * v) (get_or sends v 0) 0 (omega (arith, b.long)))
      (get_or-set_other at (2 * v) (2 * v + 1) (get_or sends v 0) 0 (λ e. omega arith) ∙ b.none (2 * v + 1) (omega arith) ∙ sym nowhere)
      (λ j left right. get_or-set_other at (2 * v) j (get_or sends v 0) 0 left)
