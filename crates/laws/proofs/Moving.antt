-- Packets that move: what is held, weighed by any weight of the nodes, changes by what each sender's packet gains on its hop.
-- With the weight 1 this is conservation, with the level it counts the hops. By recursion over the senders.
use mathlib.Core.Path.{◌≡◌, refl, sym, ap, ◌∙◌, subst}
use mathlib.Core.List.{List, [], ◌∷◌, ◌++◌}
use mathlib.Core.Logic.{◌≢◌, ⊎_elim}
use Prim.Native.Nat.{ℕ, zero, suc, ◌+◌, ◌-◌, ◌*◌, ◌≤◌, ◌<◌}
use native.Mathlib.Nat.{not-suc-le-zero, suc-mul}
use native.Mathlib.Numerals.{add-one}
use native.Mathlib.Omega.{arith}
use lib.ListN.{length, get_or, set, length-set}
use lib.Seq.{get_or-set_same, get_or-set_other}
use Rattle.meaning.specs.Words.{sum, places}
use Rattle.meaning.specs.Rounds.{hop, moved}
use Rattle.laws.proofs.Turns.{below-or-last, same-or-other, sum_same, in_sum}

-- what the nodes hold, each packet weighed by where it is
abbrev pub weigh : (ℕ → ℕ) → List ℕ → ℕ
weigh w held = sum places (λ k. get_or held k 0 * w k)

-- the same of the senders: what their places weigh together
unfoldable pub weigh_all : (ℕ → ℕ) → List ℕ → ℕ
weigh_all w [] = 0
weigh_all w (v ∷ slot) = w v + weigh_all w slot

-- one place of a list changed
sum-set : (n : ℕ) (w : ℕ → ℕ) (l : List ℕ) (i a : ℕ) → i < n → i < length l
    → sum n (λ k. get_or (set l i a) k 0 * w k) + get_or l i 0 * w i ≡ sum n (λ k. get_or l k 0 * w k) + a * w i
unfolding sum
sum-set zero w l i a h hl = absurd (not-suc-le-zero h)
sum-set (suc n) w l i a h hl =
    ⊎_elim
    (λ (b : i < n).
    let here : get_or (set l i a) n 0 ≡ get_or l n 0 = get_or-set_other l i n a 0 (omega arith) in
    let rest = sum-set n w l i a b hl in
    rw here (omega arith))
    (λ (e : i ≡ n).
    let same : sum n (λ k. get_or (set l i a) k 0 * w k) ≡ sum n (λ k. get_or l k 0 * w k) =
    sum_same n (λ k. get_or (set l i a) k 0 * w k) (λ k. get_or l k 0 * w k)
    (λ k hk. ap (λ (x : ℕ). x * w k) (get_or-set_other l i k a 0 (omega arith)))
    in
    let here : get_or (set l i a) n 0 ≡ a = subst (λ (j : ℕ). get_or (set l i a) j 0 ≡ a) e (get_or-set_same l i a 0 hl) in
    let there : get_or l n 0 * w n ≡ get_or l i 0 * w i = ap (λ (j : ℕ). get_or l j 0 * w j) (sym e) in
    let weight : a * w n ≡ a * w i = ap (λ (j : ℕ). a * w j) (sym e) in
    rw (here, same) (omega arith))
    (below-or-last i n h)

one_more : (g x : ℕ) → (g + 1) * x ≡ g * x + x
one_more g x = rw (add-one g, suc-mul g x)

one_less : (g x : ℕ) → 1 ≤ g → (g - 1) * x + x ≡ g * x
one_less g x h = sym (one_more (g - 1) x) ∙ ap (λ (k : ℕ). k * x) (omega arith)

-- a hop
pub weigh-hop : (w parent : ℕ → ℕ) (v : ℕ) (held : List ℕ) → length held ≡ places → v < places → parent v < places → 1 ≤ get_or held v 0
    → weigh w (hop parent v held) + w v ≡ weigh w held + w (parent v)
weigh-hop w parent v held hl hv hq holds =
    let less : List ℕ = set held v (get_or held v 0 - 1) in
    let q : ℕ = parent v in
    let taken = sum-set places w held v (get_or held v 0 - 1) hv (omega arith) in
    let given = sum-set places w less q (get_or less q 0 + 1) hq (rw (length-set held v (get_or held v 0 - 1)) (omega arith)) in
    omega (arith, taken, given, one_more (get_or less q 0) (w q), one_less (get_or held v 0) (w v) holds)

pub length-hop : (parent : ℕ → ℕ) (v : ℕ) (held : List ℕ) → length (hop parent v held) ≡ length held
length-hop parent v held = simp length-set

-- nobody else has less after a hop
pub hop-keeps : (parent : ℕ → ℕ) (v u : ℕ) (held : List ℕ) → length held ≡ places → u ≢ v → u < places → get_or held u 0 ≤ get_or (hop parent v held) u 0
hop-keeps parent v u held hl other hu =
    let less : List ℕ = set held v (get_or held v 0 - 1) in
    let stays : get_or less u 0 ≡ get_or held u 0 = get_or-set_other held v u (get_or held v 0 - 1) 0 other in
    ⊎_elim
    (λ (e : u ≡ parent v).
    let more : get_or (set less u (get_or less u 0 + 1)) u 0 ≡ get_or less u 0 + 1 =
    get_or-set_same less u (get_or less u 0 + 1) 0 (rw (length-set held v (get_or held v 0 - 1)) (omega arith))
    in
    rw (← e) (omega (arith, stays, more)))
    (λ (e : u ≢ parent v). rw (get_or-set_other less (parent v) u (get_or less (parent v) 0 + 1) 0 e) (omega (arith, stays)))
    (same-or-other u (parent v))

-- senders in strictly rising number, above lo
unfoldable pub Rising : ℕ → List ℕ → Type 0
Rising lo [] = Unit {0}
Rising lo (v ∷ slot) = (lo < v) × Rising v slot

-- each of a list
unfoldable pub Each : (ℕ → Type 0) → List ℕ → Type 0
Each P [] = Unit {0}
Each P (v ∷ slot) = P v × Each P slot

-- each sender holds a packet, is a node, and so is its parent
abbrev pub Sender : (ℕ → ℕ) → List ℕ → ℕ → Type 0
Sender parent held v = (1 ≤ get_or held v 0) × (v < places) × (parent v < places)

-- the senders after v still hold a packet when v has sent
pub sending-on : (parent : ℕ → ℕ) (v lo : ℕ) (held slot : List ℕ) → length held ≡ places → v ≤ lo → Rising lo slot → Each (Sender parent held) slot
    → Each (Sender parent (hop parent v held)) slot
unfolding Rising Each
sending-on parent v lo held [] hl h rising sending = tt
sending-on parent v lo held (u ∷ slot) hl h rising sending =
    let above : lo < u = rising.0 in
    let keeps = hop-keeps parent v u held hl (omega arith) sending.0.1 in
    ((omega (arith, keeps, sending.0.0), sending.0.1, sending.0.2), sending-on parent v u held slot hl (omega arith) rising.1 sending.1)

-- a slot
pub weigh-moved : (w parent : ℕ → ℕ) (lo : ℕ) (slot held : List ℕ) → length held ≡ places → Rising lo slot → Each (Sender parent held) slot
    → weigh w (moved parent slot held) + weigh_all w slot ≡ weigh w held + weigh_all (λ v. w (parent v)) slot
unfolding Rising Each moved weigh_all
weigh-moved w parent lo [] held hl rising sending = refl
weigh-moved w parent lo (v ∷ slot) held hl rising sending =
    let first = weigh-hop w parent v held hl sending.0.1 sending.0.2 sending.0.0 in
    let after : length (hop parent v held) ≡ places = length-hop parent v held ∙ hl in
    let rest = weigh-moved w parent v slot (hop parent v held) after rising.1 (sending-on parent v v held slot hl (omega arith) rising.1 sending.1) in
    omega (arith, first, rest)

-- senders that stand one above their parents
pub weigh-up : (w parent : ℕ → ℕ) (slot : List ℕ) → Each (λ v. w v ≡ suc (w (parent v))) slot → weigh_all w slot ≡ weigh_all (λ v. w (parent v)) slot + length slot
unfolding weigh_all Each
weigh-up w parent [] up = refl
weigh-up w parent (v ∷ slot) up = omega (arith, up.0, weigh-up w parent slot up.1)

pub length_moved : (parent : ℕ → ℕ) (slot held : List ℕ) → length (moved parent slot held) ≡ length held
unfolding moved
length_moved parent [] held = refl
length_moved parent (v ∷ slot) held = length_moved parent slot (hop parent v held) ∙ length-hop parent v held

-- conservation: a slot keeps the packets of all nodes together
pub kept : (parent : ℕ → ℕ) (lo : ℕ) (slot held : List ℕ) → length held ≡ places → Rising lo slot → Each (Sender parent held) slot
    → weigh (λ _. 1) (moved parent slot held) ≡ weigh (λ _. 1) held
kept parent lo slot held hl rising sending = omega (arith, weigh-moved (λ _. 1) parent lo slot held hl rising sending)

-- one slot after another
pub moved-append : (parent : ℕ → ℕ) (xs ys held : List ℕ) → moved parent (xs ++ ys) held ≡ moved parent ys (moved parent xs held)
unfolding moved
moved-append parent [] ys held = refl
moved-append parent (x ∷ xs) ys held = moved-append parent xs ys (hop parent x held)

-- who does not send has no less afterwards
pub moved_keeps : (parent : ℕ → ℕ) (u : ℕ) (slot held : List ℕ) → length held ≡ places → u < places → Each (λ v. u ≢ v) slot
    → get_or held u 0 ≤ get_or (moved parent slot held) u 0
unfolding moved Each
moved_keeps parent u [] held hl hu others = omega arith
moved_keeps parent u (v ∷ slot) held hl hu others =
    let first = hop-keeps parent v u held hl others.0 hu in
    let rest = moved_keeps parent u slot (hop parent v held) (length-hop parent v held ∙ hl) hu others.1 in
    omega (arith, first, rest)

-- no node holds more than all together
pub in_all : (held : List ℕ) (u : ℕ) → u < places → get_or held u 0 ≤ weigh (λ _. 1) held
in_all held u h = omega (arith, in_sum places (λ k. get_or held k 0 * 1) u h)
