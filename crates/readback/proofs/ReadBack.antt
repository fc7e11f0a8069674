-- What is written of a table reads back: the table read after each place of the text has just the edges whose places came before, place 65 x + y for x and y.
use mathlib.Core.Path.{◌≡◌, refl, sym, ap, ap₂, ◌∙◌, subst}
use mathlib.Core.Bool.{Bool, true, false, cond, ◌&&◌, ◌||◌, and-false}
use mathlib.Core.Logic.{⊎_elim}
use mathlib.Core.List.{[], ◌∷◌, ◌++◌, append-nil, append_assoc}
use Prim.Native.Nat.{ℕ, zero, suc, ◌+◌, ◌-◌, ◌*◌, ◌≤◌, ◌<◌}
use native.Mathlib.Decide.{dec_lt}
use native.Mathlib.Omega.{arith}
use borrow.Author.Tests.{lt-ltb, le-ltb, le-leb, ne_eqb, eq-eqb, ltb-true}
use lib.Dec.{eqb, ltb}
use Rattle.meaning.specs.Words.{Bytes, Relation, places}
use Rattle.meaning.specs.Conflict.{table_of, entry}
use Rattle.laws.proofs.Turns.{same-or-other}
use Rattle.laws.proofs.Slots.{and_left, and_right}
use Rattle.laws.proofs.Conflicting.{entry-table}
use Rattle.conflict.specs.Marks.{marked}
use Rattle.conflict.proofs.Tables.{table_same, entry_of, marked-table}
use Rattle.graph.specs.declared.Line.TheVariants.{Problem, Edge}
use Rattle.graph.specs.declared.Reading.{Reading}
use Rattle.graph.specs.Part.{newline}
use Rattle.graph.specs.Lines.{line_of}
use Rattle.graph.specs.Table.{Table, no_edges, is_joined, with_edge, edges}
use Rattle.graph.specs.Reading.{unread, next_line, may_stand, is_outside, is_astray, line_test, taken, table_after, line_read, last_read, end_test}
use Rattle.graph.specs.Reading.{GraphRead, ended, graph_read}
use Rattle.graph.specs.Drawing.{texts, problem_line, edge_line, edge_text, row_text, table_text}
use Rattle.readback.proofs.LineSaid.{edge_words, problem_words, edge-one-line, problem-one-line, edge-line, problem-line, edge-read, problem-read}
use Rattle.readback.proofs.OneLineMore.{Read, read_none, read-line}

-- what one mark more is to the edges either way round
either_way : (p q m n o : Bool) → ((p || (m && true)) || (q || ((n && o) && true))) ≡ ((p || q) || m) || (o && n)
either_way true q m n o = refl
either_way false true true n o = refl
either_way false false true n o = refl
either_way false true false n o = refl
either_way false false false true true = refl
either_way false false false true false = refl
either_way false false false false true = refl
either_way false false false false false = refl

module _ (C : Relation) where
  -- an edge, at its smaller end
  upper : Relation
  upper a b = ltb a b && C a b

  -- it came before place i
  came : ℕ → Relation
  came i a b = upper a b && ltb (65 * a + b) i

  -- the edges that came before place i, both ways
  joined_by : ℕ → Relation
  joined_by i a b = came i a b || came i b a

  module _ (i x y a b : ℕ) (at : i ≡ 65 * x + y) (hy : y < 65) (hb : b < 65) where
    is : Bool
    is = eqb x a && eqb y b

    -- one place more is one edge more, if an edge stands there
    came-next : came (i + 1) a b ≡ came i a b || (is && upper x y)
    unfolding came is
    came-next = ⊎_elim (λ e. ⊎_elim (λ f. here e f) (λ f. elsewhere (away e f) (other-y f)) (same-or-other y b)) (λ e. elsewhere (past e) (other-x e)) (same-or-other x a)
      where
        at-place : (v : Bool) → (v && true) ≡ (v && false) || ((true && true) && v)
        at-place true = refl
        at-place false = refl

        no_more : (v w : Bool) → (v && w) ≡ (v && w) || (false && upper x y)
        no_more true true = refl
        no_more true false = refl
        no_more false w = refl

        here : x ≡ a → y ≡ b
            → (upper a b && ltb (65 * a + b) (i + 1)) ≡ (upper a b && ltb (65 * a + b) i) || ((eqb x a && eqb y b) && upper x y)
        here e f =
            ap₂ ◌&&◌ (ap₂ upper (sym e) (sym f)) (lt-ltb (65 * a + b) (i + 1) (omega (arith, e, f, at)))
            ∙ at-place (upper x y)
            ∙ ap₂ ◌||◌
            (ap₂ ◌&&◌ (ap₂ upper e f) (sym (le-ltb (65 * a + b) i (omega (arith, e, f, at)))))
            (ap (λ (t : Bool). t && upper x y) (ap₂ ◌&&◌ (sym (eq-eqb x a e)) (sym (eq-eqb y b f))))

        not_yet : (65 * a + b ≡ i → ⊥) → Dec (65 * a + b < i) → ltb (65 * a + b) (i + 1) ≡ ltb (65 * a + b) i
        not_yet ne (yes h) = lt-ltb (65 * a + b) (i + 1) (omega (arith, h)) ∙ sym (lt-ltb (65 * a + b) i h)
        not_yet ne (no h) = le-ltb (65 * a + b) (i + 1) (omega (arith, h, ne)) ∙ sym (le-ltb (65 * a + b) i (omega (arith, h)))

        elsewhere : (65 * a + b ≡ i → ⊥) → (eqb x a && eqb y b) ≡ false
            → (upper a b && ltb (65 * a + b) (i + 1)) ≡ (upper a b && ltb (65 * a + b) i) || ((eqb x a && eqb y b) && upper x y)
        elsewhere ne f =
            ap (λ (t : Bool). upper a b && t) (not_yet ne (dec_lt (65 * a + b) i))
            ∙ no_more (upper a b) (ltb (65 * a + b) i)
            ∙ ap (λ (t : Bool). (upper a b && ltb (65 * a + b) i) || (t && upper x y)) (sym f)

        away : x ≡ a → (y ≡ b → ⊥) → 65 * a + b ≡ i → ⊥
        away e f g = f (omega (arith, e, g, at))

        past : (x ≡ a → ⊥) → 65 * a + b ≡ i → ⊥
        past e g = e (omega (arith, g, at, hy, hb))

        other-y : (y ≡ b → ⊥) → (eqb x a && eqb y b) ≡ false
        other-y f = ap (λ (t : Bool). eqb x a && t) (ne_eqb y b f) ∙ and-false (eqb x a)

        other-x : (x ≡ a → ⊥) → (eqb x a && eqb y b) ≡ false
        other-x e = ap (λ (t : Bool). t && eqb y b) (ne_eqb x a e)

  module _ (i x y : ℕ) (at : i ≡ 65 * x + y) (hy : y < 65) where
    -- an edge stands there
    joined-more : upper x y ≡ true → (a : ℕ) → a < 65 → (b : ℕ) → b < 65
        → joined_by (i + 1) a b ≡ (joined_by i a b || (eqb x a && eqb y b)) || (eqb y a && eqb x b)
    unfolding joined_by is
    joined-more v a ha b hb =
        ap₂ ◌||◌
        (came-next i x y a b at hy hb ∙ ap (λ (t : Bool). came i a b || ((eqb x a && eqb y b) && t)) v)
        (came-next i x y b a at hy ha ∙ ap (λ (t : Bool). came i b a || ((eqb x b && eqb y a) && t)) v)
        ∙ either_way (came i a b) (came i b a) (eqb x a && eqb y b) (eqb x b) (eqb y a)

    -- none stands there
    joined_same : upper x y ≡ false → (a : ℕ) → a < 65 → (b : ℕ) → b < 65 → joined_by (i + 1) a b ≡ joined_by i a b
    unfolding joined_by is
    joined_same v a ha b hb = ap₂ ◌||◌ (stays a b hb) (stays b a ha)
      where
        or-false : (t u : Bool) → (t || (u && false)) ≡ t
        or-false true u = refl
        or-false false true = refl
        or-false false false = refl

        stays : (a b : ℕ) → b < 65 → came (i + 1) a b ≡ came i a b
        stays a b hb =
            came-next i x y a b at hy hb
            ∙ ap (λ (t : Bool). came i a b || ((eqb x a && eqb y b) && t)) v
            ∙ or-false (came i a b) (eqb x a && eqb y b)

    -- it did not come before
    joined-new : upper x y ≡ true → joined_by i x y ≡ false
    unfolding joined_by came upper
    joined-new v =
        ap₂ ◌||◌
        (ap (λ (t : Bool). (ltb x y && C x y) && t) (le-ltb (65 * x + y) i (omega (arith, at))) ∙ and-false (ltb x y && C x y))
        (ap (λ (t : Bool). (t && C y x) && ltb (65 * y + x) i) (le-ltb y x (omega (arith, ltb-true x y (and_left (ltb x y) (C x y) v)))))

  joined-none : (a b : ℕ) → joined_by 0 a b ≡ false
  unfolding joined_by came
  joined-none a b = ap₂ ◌||◌ (none a b) (none b a)
    where
      none : (a b : ℕ) → (upper a b && ltb (65 * a + b) 0) ≡ false
      none a b = ap (λ (t : Bool). upper a b && t) (le-ltb (65 * a + b) 0 (omega arith)) ∙ and-false (upper a b)

  module _ (both : (x y : ℕ) → C x y ≡ C y x) (other : (x : ℕ) → C x x ≡ false) where
    -- all came at the end
    joined-all : (a : ℕ) → a < 65 → (b : ℕ) → b < 65 → joined_by 4225 a b ≡ C a b
    unfolding joined_by came upper
    joined-all a ha b hb =
        ap₂ ◌||◌
        (ap (λ (t : Bool). (ltb a b && C a b) && t) (lt-ltb (65 * a + b) 4225 (omega (arith, ha, hb))))
        (ap (λ (t : Bool). (ltb b a && C b a) && t) (lt-ltb (65 * b + a) 4225 (omega (arith, ha, hb))))
        ∙ by (dec_lt a b) (dec_lt b a)
      where
        lower : (c : Bool) → (((true && c) && true) || ((false && c) && true)) ≡ c
        lower true = refl
        lower false = refl

        higher : (c : Bool) → (((false && c) && true) || ((true && c) && true)) ≡ c
        higher true = refl
        higher false = refl

        by : Dec (a < b) → Dec (b < a) → (((ltb a b && C a b) && true) || ((ltb b a && C b a) && true)) ≡ C a b
        by (yes h) d = rw (lt-ltb a b h) (rw (le-ltb b a (omega (arith, h))) (lower (C a b)))
        by (no h) (yes l) = rw (le-ltb a b (omega (arith, h))) (rw (lt-ltb b a l) (rw (both b a) (higher (C a b))))
        by (no h) (no l) =
            let one : b ≡ a = omega (arith, h, l) in
            rw (le-ltb a b (omega (arith, h))) (rw (le-ltb b a (omega (arith, l))) (sym (ap (C a) one ∙ other a)))

  module _ (p : ℕ) (few : p ≤ 63) (within : (x y : ℕ) → C x y ≡ true → ((2 ≤ x) × (x < 2 + p)) × ((2 ≤ y) × (y < 2 + p)))
      (both : (x y : ℕ) → C x y ≡ C y x) (other : (x : ℕ) → C x x ≡ false) (counted : edges (table_of C) ≤ 65535) where
    table : Table
    table = table_of C

    -- what is known behind the `p` line, after so many lines
    after : ℕ → Reading
    after lines = record { number = 0; place = 0; lines = lines; begun = true; vertices = p; stated = edges (table_of C) }

    -- before place i this was read
    abbrev Reads : Bytes → ℕ → Type 0
    Reads text i = (lines : ℕ) × Read text (record { state = after lines; table = table_of (joined_by i) })

    in_table : (x y : ℕ) → entry table x y ≡ C x y
    unfolding table
    in_table = entry-table C (λ x y e. let in-yard = within x y e in (omega (arith, in-yard.0.1, few), omega (arith, in-yard.1.1, few)))

    -- an `e` line that may stand and is not astray
    edge-taken : (lines a b : ℕ) (so : Table) (line : Bytes) → line_of line ≡ Edge a b → is_joined so a b ≡ false
        → (is_outside p a || (is_outside p b || eqb a b)) ≡ false
        → line_read (record { state = after lines; table = so }) line ≡ record { state = after (next_line (after lines)); table = with_edge so a b }
    unfolding line_read line_test may_stand is_astray taken table_after after
    edge-taken lines a b so line is-edge new near = simp (is-edge, new, near)

    module _ (i x y : ℕ) (at : i ≡ 65 * x + y) (hx : x < 65) (hy : y < 65) where
      a : ℕ
      a = x - 1

      b : ℕ
      b = y - 1

      -- the table with one edge more is that of the next place
      marked_next : upper x y ≡ true → a + 1 ≡ x → b + 1 ≡ y → with_edge (table_of (joined_by i)) a b ≡ table_of (joined_by (i + 1))
      unfolding with_edge
      marked_next v ea eb =
          ap₂ (λ (c d : ℕ). marked places (marked places (table_of (joined_by i)) c d) d c) ea eb
          ∙ ap (λ (t : Table). marked places t y x) (marked-table places (joined_by i) x y)
          ∙ marked-table places (λ c d. joined_by i c d || (eqb x c && eqb y d)) y x
          ∙ table_same (λ c d. (joined_by i c d || (eqb x c && eqb y d)) || (eqb y c && eqb x d)) (joined_by (i + 1))
          (λ c hc d hd. sym (joined-more i x y at hy v c hc d hd))

      not-joined : upper x y ≡ true → a + 1 ≡ x → b + 1 ≡ y → is_joined (table_of (joined_by i)) a b ≡ false
      not-joined v ea eb =
          ap₂ (entry (table_of (joined_by i))) ea eb
          ∙ entry_of places (table_of (joined_by i)) (joined_by i) x y refl hx hy
          ∙ joined-new i x y at hy v

      near : upper x y ≡ true → ((2 ≤ x) × (x < 2 + p)) × ((2 ≤ y) × (y < 2 + p)) → (is_outside p a || (is_outside p b || eqb a b)) ≡ false
      unfolding a b upper
      near v in-yard =
          let less : x < y = ltb-true x y (and_left (ltb x y) (C x y) v) in
          simp (
            ne_eqb (x - 1) 0 (λ e. omega (arith, e, in-yard.0.0)),
            le-ltb p (x - 1) (omega (arith, in-yard.0.1)),
            ne_eqb (y - 1) 0 (λ e. omega (arith, e, in-yard.1.0)),
            le-ltb p (y - 1) (omega (arith, in-yard.1.1)),
            ne_eqb (x - 1) (y - 1) (λ e. omega (arith, e, less, in-yard.0.0)),
          )

      with-edge : (text : Bytes) → Reads text i → upper x y ≡ true → Reads (text ++ edge_line a b) (i + 1)
      unfolding a b upper
      with-edge text so v =
          let in-yard = within x y (and_right (ltb x y) (C x y) v) in
          let ea : x - 1 + 1 ≡ x = omega (arith, in-yard.0.0) in
          let eb : y - 1 + 1 ≡ y = omega (arith, in-yard.1.0) in
          let line = edge_words (x - 1) (y - 1) in
          let one = edge-one-line (x - 1) (y - 1) in
          let is-edge = edge-read (x - 1) (y - 1) (omega (arith, hx)) (omega (arith, hy)) in
          let next = edge-taken so.0 (x - 1) (y - 1) (table_of (joined_by i)) line is-edge (not-joined v ea eb) (near v in-yard) in (
            next_line (after so.0),
            subst (λ (l : Bytes). Read (text ++ l) (record { state = after (next_line (after so.0)); table = table_of (joined_by (i + 1)) }))
                (sym (edge-line (x - 1) (y - 1)))
                (subst (Read (text ++ (line ++ (newline ∷ []))))
                (next ∙ ap (λ (t : Table). record { state = after (next_line (after so.0)); table = t }) (marked_next v ea eb))
                (read-line text line (record { state = after so.0; table = table_of (joined_by i) }) so.1 one)),
          )

      without-edge : (text : Bytes) → Reads text i → upper x y ≡ false → Reads (text ++ []) (i + 1)
      without-edge text so v = (
        so.0,
        subst (λ (l : Bytes). Read l (record { state = after so.0; table = table_of (joined_by (i + 1)) })) (sym (append-nil text))
            (subst (λ (t : Table). Read text (record { state = after so.0; table = t }))
            (table_same (joined_by i) (joined_by (i + 1)) (λ c hc d hd. sym (joined_same i x y at hy v c hc d hd)))
            so.1),
      )

      -- one place more
      place_read : (text : Bytes) → Reads text i → Reads (text ++ edge_text table x y) (i + 1)
      unfolding upper a b
      place_read text so =
          subst (λ (t : Bool). Reads (text ++ cond (ltb x y && t) (edge_line (x - 1) (y - 1)) []) (i + 1)) (sym (in_table x y))
          (go (ltb x y && C x y) refl)
        where
          go : (t : Bool) → (ltb x y && C x y) ≡ t → Reads (text ++ cond t (edge_line (x - 1) (y - 1)) []) (i + 1)
          go true v = with-edge text so v
          go false v = without-edge text so v

    -- so many places of a row
    row_read : (x n : ℕ) → x < 65 → n ≤ 65 → (text : Bytes) → Reads text (65 * x) → Reads (text ++ texts n (edge_text table x)) (65 * x + n)
    unfolding texts
    row_read x zero hx hn text so =
        let none : 65 * x ≡ 65 * x + 0 = omega arith in
        subst (Reads (text ++ [])) none (subst (λ (l : Bytes). Reads l (65 * x)) (sym (append-nil text)) so)
    row_read x (suc n) hx hn text so =
        let before = row_read x n hx (omega (arith, hn)) text so in
        let next : 65 * x + n + 1 ≡ 65 * x + suc n = omega arith in
        subst (λ (l : Bytes). Reads l (65 * x + suc n)) (append_assoc text (texts n (edge_text table x)) (edge_text table x n))
        (subst (Reads ((text ++ texts n (edge_text table x)) ++ edge_text table x n)) next
        (place_read (65 * x + n) x n refl hx (omega (arith, hn)) (text ++ texts n (edge_text table x)) before))

    whole_row : (n : ℕ) → n < 65 → (text : Bytes) → Reads text (65 * n) → Reads (text ++ row_text table n) (65 * n + 65)
    unfolding row_text
    whole_row n hn text so = row_read n 65 hn (omega arith) text so

    -- so many rows
    rows-read : (n : ℕ) → n ≤ 65 → (text : Bytes) → Reads text 0 → Reads (text ++ texts n (row_text table)) (65 * n)
    unfolding texts
    rows-read zero hn text so = subst (λ (l : Bytes). Reads l 0) (sym (append-nil text)) so
    rows-read (suc n) hn text so =
        let before = rows-read n (omega (arith, hn)) text so in
        let next : 65 * n + 65 ≡ 65 * suc n = omega arith in
        subst (λ (l : Bytes). Reads l (65 * suc n)) (append_assoc text (texts n (row_text table)) (row_text table n))
        (subst (Reads ((text ++ texts n (row_text table)) ++ row_text table n)) next (whole_row n (omega (arith, hn)) (text ++ texts n (row_text table)) before))

    -- the `p` line
    problem-taken : (line : Bytes) → line_of line ≡ Problem p (edges (table_of C))
        → line_read (record { state = unread; table = no_edges }) line ≡ record { state = after 1; table = no_edges }
    unfolding line_read line_test may_stand is_astray taken table_after after unread
    problem-taken line is-problem = simp (is-problem, le-leb p 63 few)

    none-joined : no_edges ≡ table_of (joined_by 0)
    unfolding no_edges
    none-joined = table_same (λ c d. false) (joined_by 0) (λ c hc d hd. sym (joined-none c d))

    problem-read-first : Reads (problem_line p (edges (table_of C))) 0
    problem-read-first =
        let m = edges (table_of C) in
        let line = problem_words p m in
        let taken = problem-taken line (problem-read p m (omega (arith, few)) counted) in (
          1,
          subst (λ (l : Bytes). Read l (record { state = after 1; table = table_of (joined_by 0) })) (sym (problem-line p m))
              (subst (Read (line ++ (newline ∷ [])))
              (taken ∙ ap (λ (t : Table). record { state = after 1; table = t }) none-joined)
              (read-line [] line (record { state = unread; table = no_edges }) read_none (problem-one-line p m))),
        )

    all-joined : table_of (joined_by 4225) ≡ table_of C
    all-joined = table_same (joined_by 4225) C (joined-all both other)

    text-read : Reads (table_text p (table_of C)) 4225
    unfolding table_text table
    text-read = rows-read 65 (omega arith) (problem_line p (edges (table_of C))) problem-read-first

    answer : GraphRead
    answer = record { answer = record { number = 0; place = 0; vertices = p }; table = table_of C }

    at-end : (lines : ℕ) → ended (record { state = after lines; table = table_of C }) ≡ answer
    unfolding ended end_test after answer
    at-end lines = simp (eq-eqb (edges (table_of C)) (edges (table_of C)) refl)

    -- what is written of a table reads back as the same table
    pub reads-back : graph_read (table_text p (table_of C)) ≡ record { answer = record { number = 0; place = 0; vertices = p }; table = table_of C }
    unfolding graph_read last_read answer after
    reads-back =
        let so = text-read.1 in
        rw so.lines (rw so.whole (rw all-joined (at-end text-read.0)))
