-- A code that contains typed blocks has a table of kinds: the code of rules is typable.

use Rattle.std.proofs.Common.{◌≡◌, ℕ, suc, ◌+◌, ◌<◌, ◌≤◌, List, [], ◌∷◌, ◌++◌, length, Option, Some, None, refl, sym, ap, ◌∙◌, subst, arith, ⊎_elim}
use Rattle.std.specs.Prelude.{slice_get}
use Rattle.std.specs.List.{AllByRecursion}
use Rattle.std.proofs.lemmas.Grind.{common_steps}
use Rattle.std.proofs.lemmas.Bool.{cases_lt}
use Rattle.std.proofs.lemmas.List.{length-append}
use Rattle.code_model.specs.Code.{Code, reading_at}
use Rattle.code_model.specs.declared.code.Instruction.{Instruction}
use Rattle.code_model.specs.declared.code.Instruction.TheVariants as instruction
use Rattle.machine_model.specs.declared.form.Body.{Body}
use Rattle.machine_model.specs.declared.kind.Kind.TheVariants as kind
use Rattle.machine_model.specs.Operands.{Reads}
use Rattle.machine_model.specs.States.{put}
use Rattle.machine_model.specs.Form.{is_in_body, body_at}
use Rattle.machine_model.specs.Kinds.{Kinds, any_kinds, IsBelow, edge, edges, needs, needs_at, edges_at}
use Rattle.machine_model.specs.Typable.{Table, Holds, IsMet}
use Rattle.machine_model.proofs.Orders.{below_trans}
use Rattle.machine_model.proofs.Readings.{Reads-reading_at}
use Rattle.compiler_model.specs.declared.lines.Test.{Test}
use Rattle.compiler_model.specs.declared.lines.Target.TheVariants.{Ahead}
use Rattle.compiler_model.specs.declared.lines.Line.TheVariants.{Jumps, Turns}
use Rattle.compiler_model.specs.Blocks.{Block, Nothing, Does, Then, Unless, Either, ForEach, LeaveIf, Leave, lines}
use Rattle.compiler_model.specs.Compiled.{test_instruction}
use Rattle.compiler_model.proofs.Places.{ArePlaced, placed_both}
use Rattle.compiler_model.proofs.Formed.{IsFormed}
use Rattle.compiler_model.proofs.Forming.{Room, room_less, body_next, loop_body, body_begins, test_each, each_read, none_outside, body_past}
use Rattle.compiler_model.proofs.NoFaults.{test_read}
use Rattle.compiler_model.proofs.Typed.{MeetsTest, after_test, Typed, rows, length-rows, exactly}

-- kinds for places one after another
abbrev pub AreRowsPlaced : Table → ℕ → List Kinds → Type 0
AreRowsPlaced t place [] = Unit {0}
AreRowsPlaced t place (ks ∷ rest) = (t place ≡ Some ks) × AreRowsPlaced t (place + 1) rest

pub rows_placed : (t : Table) (rs : List Kinds) (place : ℕ) → ((n : ℕ) → t (place + n) ≡ slice_get rs n) → AreRowsPlaced t place rs
rows_placed t [] place h = tt
rows_placed t (ks ∷ rs) place h =
    let here : place + 0 ≡ place = omega arith in
    (subst (λ n. t n ≡ Some ks) here (h 0), rows_placed t rs (place + 1) (λ n. let next : place + 1 + n ≡ place + suc n = omega arith in ap t next ∙ h (suc n)))

pub rows_both : (t : Table) (place : ℕ) (a b : List Kinds) → AreRowsPlaced t place (a ++ b) → AreRowsPlaced t place a × AreRowsPlaced t (place + length a) b
rows_both t place [] b h = (tt, let e : place + 0 ≡ place = omega arith in subst (λ p. AreRowsPlaced t p b) (sym e) h)
rows_both t place (x ∷ a) b h =
    let both = rows_both t (place + 1) a b h.1 in
    let e : place + 1 + length a ≡ place + length (x ∷ a) = omega arith in
    ((h.0, both.0), subst (λ p. AreRowsPlaced t p b) e both.1)

module _ (c : Code) (t : Table) where
  -- the kinds of an edge to a place are at or below those of the place
  abbrev Takes : ℕ → Kinds → Type 0
  Takes place ks = Holds t (edge place ks)

  takes_row : (place : ℕ) (ks : Kinds) → t place ≡ Some ks → (ms : Kinds) → IsBelow ms ks → Takes place ms
  takes_row place ks e ms below = (ks, e, below)

  takes_below : (place : ℕ) (ks ms : Kinds) → IsBelow ks ms → Takes place ms → Takes place ks
  takes_below place ks ms below h = (h.0, h.1, below_trans ks ms h.0 below h.2)

  -- the edges of a place have kinds at or below those of the places they lead to, and its needs are met
  abbrev pub IsSettled : ℕ → Type 0
  IsSettled place = (ks : Kinds) → t place ≡ Some ks → AllByRecursion (Holds t) (edges_at c place ks) × AllByRecursion (IsMet ks) (needs_at c place)

  pub settled : (place : ℕ) (i : Instruction) (ks : Kinds) → reading_at c place ≡ Some i → t place ≡ Some ks
      → AllByRecursion (Holds t) (edges place ks (body_at c place) i) → AllByRecursion (IsMet ks) (needs i) → IsSettled place
  settled place i ks r e h n ms f = grind (arith, common_steps)

  -- all places from p to before q
  abbrev pub Settled : ℕ → ℕ → Type 0
  Settled p q = (x : ℕ) → p ≤ x → x < q → IsSettled x

  pub settled_one : (p q : ℕ) → p + 1 ≡ q → IsSettled p → Settled p q
  settled_one p q e h x low high = let same : p ≡ x = omega (arith, low, high, e) in subst IsSettled same h

  pub settled_both : (p m q : ℕ) → Settled p m → Settled m q → Settled p q
  settled_both p m q a b x low high = ⊎_elim (λ lt. a x low lt) (λ le. b x le high) (cases_lt x m)

  test_settled : (test : Test) (p d : ℕ) (ks : Kinds) → Reads c p (test_instruction test d) → t p ≡ Some ks → MeetsTest test ks → Takes d ks
      → Takes (p + 1) (after_test test ks) → IsSettled p
  test_settled test p d ks r e m j k = grind (arith, common_steps)

  next_settled : (p q a : ℕ) (ns : Kinds) → Reads c q instruction.Next → body_at c q ≡ Some (loop_body c p q a) → t q ≡ Some ns
      → Takes (p + 1) (put ns a kind.Text) → Takes (q + 1) (put ns a kind.Any) → IsSettled q
  next_settled p q a ns r at e back out = grind (arith, common_steps)

  -- the places of a block have the block's kinds, and the kinds before it are at or below those of its first place
  abbrev Fits : ℕ → ℕ → Kinds → Type 0
  Fits p q ks = Settled p q × Takes p ks

  -- a block outside of loops may be left, to a place where nothing is known
  abbrev TakesAll : Option Body → ℕ → Type 0
  TakesAll o away = o ≡ None → Takes away any_kinds

  no_way : (b : Body) (away : ℕ) → TakesAll (Some b) away
  no_way b away e = absurd (cc)

  pub block_fits : (b : Block) (version away p q : ℕ) (o : Option Body) → IsFormed version (is_in_body o) b → ArePlaced c away p (lines b)
      → p + length (lines b) ≡ q
      → q < length c.instrs → Room c o q → TakesAll o away → body_at c p ≡ o → (ks ms : Kinds) (y : Typed b ks ms) → AreRowsPlaced t p (rows b ks ms y)
      → Takes q ms
      → Fits p q ks
  block_fits Nothing version away p q o f h eq lt room m at ks ms y r k = grind (arith, common_steps)
  block_fits (Does a) version away p q o f h eq lt room m at ks ms y r k = grind (arith, common_steps)
  block_fits (Then x z) version away p q o f h eq lt room m at ks ms y r k =
      let mid = p + length (lines x) in
      let are_placed = placed_both c away p (lines x) (lines z) h in
      let eq2 : mid + length (lines z) ≡ q = omega (arith, eq, length-append (lines x) (lines z)) in
      let both = rows_both t p (rows x ks y.0 y.1) (rows z y.0 ms y.2) r in
      let later = subst (λ n. AreRowsPlaced t (p + n) (rows z y.0 ms y.2)) (length-rows x ks y.0 y.1) both.1 in
      let room1 = room_less c o mid q (omega (arith, eq2)) room in
      let middle = body_past c x version away p mid o f.0 are_placed.0 refl (omega (arith, eq2, lt)) room1 at in
      let second = block_fits z version away mid q o f.1 are_placed.1 eq2 lt room m middle y.0 ms y.2 later k in
      let first = block_fits x version away p mid o f.0 are_placed.0 refl (omega (arith, eq2, lt)) room1 m at ks y.0 y.1 both.0 second.1 in
      (settled_both p mid q first.0 second.0, first.1)
  block_fits (Unless test x) version away p q o f h eq lt room m at ks ms y r k =
      let eq2 : p + 1 + length (lines x) ≡ q = omega (arith, eq) in
      let inner = body_next c p _ h.0.reads (test_each c test _) o at (room_less c o (p + 1) q (omega (arith, eq2)) room) in
      let body = block_fits x version away (p + 1) q o f.1 h.1 eq2 lt room m inner (after_test test ks) ms y.2 r.1 k in (
        settled_both p (p + 1) q
            (settled_one p (p + 1) refl (test_settled test p q ks (test_read c test _ away p q (omega (arith, eq)) h.0) r.0 y.0 (takes_below q ks ms y.1 k)
            body.1))
            body.0,
        takes_row p ks r.0 ks (exactly ks),
      )
  block_fits (Either test x z) version away p q o f h eq lt room m at ks ms y r k =
      let mid = p + 1 + length (lines x) in
      let are_placed = placed_both c away (p + 1) (lines x) (Jumps (Ahead (length (lines z) + 1)) ∷ lines z) h.1 in
      let eq2 : mid + 1 + length (lines z) ≡ q = omega (arith, eq, length-append (lines x) (Jumps (Ahead (length (lines z) + 1)) ∷ lines z)) in
      let over : mid + (length (lines z) + 1) ≡ q = omega (arith, eq2) in
      let both = rows_both t (p + 1) (rows x (after_test test ks) ms y.1) (ms ∷ rows z ks ms y.2) r.1 in
      let later = subst (λ n. AreRowsPlaced t (p + 1 + n) (ms ∷ rows z ks ms y.2)) (length-rows x (after_test test ks) ms y.1) both.1 in
      let room1 = room_less c o mid q (omega (arith, eq2)) room in
      let inner = body_next c p _ h.0.reads (test_each c test _) o at (room_less c o (p + 1) q (omega (arith, eq2)) room) in
      let middle = body_past c x version away (p + 1) mid o f.1 are_placed.0 refl (omega (arith, eq2, lt)) room1 inner in
      let other = body_next c mid _ are_placed.1.0.reads refl o middle (room_less c o (mid + 1) q (omega (arith, eq2)) room) in
      let second = block_fits z version away (mid + 1) q o f.2 are_placed.1.1 eq2 lt room m other ks ms y.2 later.1 k in
      let first = block_fits x version away (p + 1) mid o f.1 are_placed.0 refl (omega (arith, eq2, lt)) room1 m inner (after_test test ks) ms y.1 both.0
      (takes_row mid ms later.0 ms (exactly ms)) in (
        settled_both p (p + 1) q
            (settled_one p (p + 1) refl (test_settled test p (mid + 1) ks (test_read c test _ away p (mid + 1) (omega arith) h.0) r.0 y.0 second.1 first.1))
            (settled_both (p + 1) mid q first.0
            (settled_both mid (mid + 1) q
            (settled_one mid (mid + 1) refl
            (settled mid (instruction.Jump q) ms (Reads-reading_at c mid _ (subst (λ d. Reads c mid (instruction.Jump d)) over are_placed.1.0.reads)) later.0
            (k, tt) tt))
            second.0)),
        takes_row p ks r.0 ks (exactly ks),
      )
  block_fits (ForEach a b x) version away p q o f h eq lt room m at ks ms y r k =
      let last = p + 1 + length (lines x) in
      let are_placed = placed_both c away (p + 1) (lines x) (Turns ∷ []) h.1 in
      let eq2 : last + 1 ≡ q = omega (arith, eq, length-append (lines x) (Turns ∷ [])) in
      let none = none_outside c o f.0 in
      let here = each_read c away p last a b _ (omega arith) h.0 in
      let both = rows_both t (p + 1) (rows x y.0 y.1 y.3) (y.1 ∷ []) r.1 in
      let later = subst (λ n. AreRowsPlaced t (p + 1 + n) (y.1 ∷ [])) (length-rows x y.0 y.1 y.3) both.1 in
      let inner = body_begins c p last a b here are_placed.1.0.reads (omega arith) (omega (arith, eq2, lt)) (at ∙ none) in
      let end = body_past c x version away (p + 1) last (Some (loop_body c p last a)) f.3 are_placed.0 refl (omega (arith, eq2, lt)) (omega arith) inner in
      let out : Takes (last + 1) ms = subst (λ n. Takes n ms) (sym eq2) k in
      let turn = block_fits x version away (p + 1) last (Some (loop_body c p last a)) f.3 are_placed.0 refl (omega (arith, eq2, lt)) (omega arith)
      (no_way (loop_body c p last a) away) inner y.0 y.1 y.3 both.0 (takes_row last y.1 later.0 y.1 (exactly y.1)) in (
        settled_both p (p + 1) q
            (settled_one p (p + 1) refl (settled p (instruction.Each a b (last + 1)) ks (Reads-reading_at c p _ here) r.0
            (takes_below (p + 1) (put ks a kind.Text) y.0 y.2.enters turn.1, (takes_below (last + 1) (put ks a kind.Any) ms y.2.skips out, tt)) (y.2.list, tt)))
            (settled_both (p + 1) last q turn.0
            (settled_one last q eq2 (next_settled p last a y.1 are_placed.1.0.reads end later.0
            (takes_below (p + 1) (put y.1 a kind.Text) y.0 y.2.returns turn.1) (takes_below (last + 1) (put y.1 a kind.Any) ms y.2.leaves out)))),
        takes_row p ks r.0 ks (exactly ks),
      )
  block_fits (LeaveIf test) version away p q o f h eq lt room m at ks ms y r k = grind (arith, common_steps)
  block_fits Leave version away p q o f h eq lt room m at ks ms y r k = grind (arith, common_steps)
