-- What a run has spent when it reaches a place. Each place has two weights: what a step there spends at most, and what it spends at most for each byte of the
-- current member.
use Rattle.std.proofs.Common.{◌≡◌, ℕ, suc, ◌+◌, ◌-◌, ◌*◌, ◌<◌, ◌≤◌, ◌∷◌, length, Option, Some, None, sym, ap, ◌∙◌, arith}
use Rattle.std.specs.Prelude.{option_map, sum_by}
use Rattle.std.proofs.Math.Nat.{mul-le-mul_left}
use Rattle.std.proofs.lemmas.List.Sums.{sum_by-cons}
use Rattle.std.proofs.lemmas.Grind.{common_steps}
use Rattle.text_model.specs.Texts.{Text}
use Rattle.code_model.specs.Code.{Code}
use Rattle.machine_model.specs.States.{Loop}
use Rattle.machine_model.specs.Form.{body_at}
use Rattle.machine_model.specs.Budget.{where_outside, where_inside, outside, inside}
use Rattle.machine_model.proofs.Bodies.{is_in}
use Rattle.machine_model.specs.Fitting.{body_of}
use Rattle.machine_laws.proofs.Sums.{outer, inner, total_le, total_outside, total_inside}

-- ---- arithmetic: B and D are the weights of a body, e and d those of its part before a place, and w and t
-- those of the place; x is what was spent before the loop

-- a place further in the body
further : (x member e e' w d d' t g g' : ℕ) → e + w ≤ e' → d + t ≤ d' → g ≤ x + e + member * d → g' ≤ g + w + t * member → g' ≤ x + e' + member * d'
further x member e e' w d d' t g g' le ld h k = let m = mul-le-mul_left member ld in omega arith

-- a turn that is over
one_more : (x member turns past B D e w d t g g' : ℕ) → e + w ≤ B → d + t ≤ D → g ≤ x + turns * B + past * D + e + member * d → g' ≤ g + w + t * member
    → g' ≤ x + (turns + 1) * B + (past + member) * D
one_more x member turns past B D e w d t g g' le ld h k = let m = mul-le-mul_left member ld in omega arith

-- a loop that is over, with bounds on turns and members
all_turns : (o a b M E turns bytes B D g : ℕ) → turns ≤ M → bytes ≤ E → g ≤ o + M * a + E * b + turns * B + bytes * D → g ≤ o + M * (a + B) + E * (b + D)
all_turns o a b M E turns bytes B D g lt lb h = grind (arith, common_steps)

module _ (c : Code) (w t : ℕ → ℕ) (M E : ℕ) where
  -- g was spent before place p of a loop's turn, whose member has that many bytes; the record has the turns that are over, and the bytes of their members
  pub record SpentInLoop (l : Loop) (member p g : ℕ) : Type 0 where
    pub turns : ℕ
    pub past : ℕ
    pub few : turns + 1 + length l.left ≤ M
    pub small : past + member + sum_by length l.left ≤ E
    pub bound : g ≤ outer c w l.start + M * inner c w l.start + E * inner c t l.start
        + turns * (inner c w l.end - inner c w l.start) + past * (inner c t l.end - inner c t l.start)
        + (inner c w p - inner c w l.start) + member * (inner c t p - inner c t l.start)

  -- g was spent before place p
  abbrev pub SpentIn : Option Loop → ℕ → ℕ → ℕ → Type 0
  SpentIn None member p g = g ≤ outer c w p + M * inner c w p + E * inner c t p
  SpentIn (Some l) member p g = SpentInLoop l member p g

  -- what a step at p may spend; outside of loops nothing for bytes of a member
  abbrev pub Within : Option Loop → ℕ → ℕ → ℕ → ℕ → Type 0
  Within None member p g g' = g' ≤ g + w p
  Within (Some l) member p g g' = g' ≤ g + w p + t p * member

  -- what comes before a place of a body, and the place itself, are part of the body
  part : (f : ℕ → ℕ) (p q : ℕ) (l : Loop) → Some (body_of l) ≡ body_at c p → p < q → (inner c f p - inner c f l.start) + f p ≤ inner c f q - inner c f l.start
  part f p q l e lt =
      let here = total_inside c f p (body_of l) (sym e) in
      let low : l.start ≤ p = (is_in c p (body_of l) (sym e)).low in
      let before = total_le (where_inside c f) l.start p low in
      let on' = total_le (where_inside c f) (suc p) q (omega arith) in
      omega arith

  -- a step within the same loop, or outside of loops
  pub spent_onward : (p q g g' member : ℕ) (l : Option Loop) → option_map body_of l ≡ body_at c p → p < q → SpentIn l member p g → Within l member p g g'
      → SpentIn l member q g'
  spent_onward p q g g' member None e lt h le =
      let here = total_outside c w p (sym e) in
      let m1 = total_le (where_outside c w) (suc p) q (omega arith) in
      let m2 = mul-le-mul_left M (total_le (where_inside c w) p q (omega arith)) in
      let m3 = mul-le-mul_left E (total_le (where_inside c t) p q (omega arith)) in
      omega arith
  spent_onward p q g g' member (Some l) e lt h le = record {
    turns = h.turns;
    past = h.past;
    few = h.few;
    small = h.small;
    bound = further _ member _ _ (w p) _ _ (t p) g g' (part w p q l e lt) (part t p q l e lt) h.bound le;
  }

  -- into a loop
  pub spent_entering : (p g g' member : ℕ) (l : Loop) → body_at c p ≡ None → l.start ≡ p + 1 → 1 + length l.left ≤ M → member + sum_by length l.left ≤ E
      → SpentIn None 0 p g → Within None 0 p g g' → SpentIn (Some l) member l.start g'
  spent_entering p g g' member l e first few small h le =
      let here = total_outside c w p e in
      let m1 = total_le (where_outside c w) (suc p) l.start (omega arith) in
      let m2 = mul-le-mul_left M (total_le (where_inside c w) p l.start (omega arith)) in
      let m3 = mul-le-mul_left E (total_le (where_inside c t) p l.start (omega arith)) in
      record { turns = 0; past = 0; few = omega arith; small = omega arith; bound = omega arith }

  -- a whole loop, at its last place
  whole : (p g g' member : ℕ) (l : Loop) → Some (body_of l) ≡ body_at c p → SpentIn (Some l) member p g → Within (Some l) member p g g'
      → g' ≤ outer c w l.start + M * inner c w l.end + E * inner c t l.end
  whole p g g' member l e h le =
      let i = is_in c p (body_of l) (sym e) in
      let low : l.start ≤ p = i.low in
      let high : p < l.end = i.high in
      let in_w = total_le (where_inside c w) l.start l.end (omega arith) in
      let in_t = total_le (where_inside c t) l.start l.end (omega arith) in
      let ew : inner c w l.start + (inner c w l.end - inner c w l.start) ≡ inner c w l.end = omega arith in
      let et : inner c t l.start + (inner c t l.end - inner c t l.start) ≡ inner c t l.end = omega arith in
      let turn = one_more _ member h.turns h.past _ _ _ (w p) _ (t p) g g' (part w p l.end l e high) (part t p l.end l e high) h.bound le in
      let all = all_turns (outer c w l.start) (inner c w l.start) (inner c t l.start) M E (h.turns + 1) (h.past + member) _ _ g' (omega (arith, h.few))
      (omega (arith, h.small)) turn in
      rw (ew, et) at all

  -- out of a loop
  pub spent_leaving : (p g g' member : ℕ) (l : Loop) → Some (body_of l) ≡ body_at c p → SpentIn (Some l) member p g → Within (Some l) member p g g'
      → SpentIn None 0 l.end g'
  spent_leaving p g g' member l e h le =
      let i = is_in c p (body_of l) (sym e) in
      let low : l.start ≤ p = i.low in
      let high : p < l.end = i.high in
      let m = total_le (where_outside c w) l.start l.end (omega arith) in
      omega (arith, whole p g g' member l e h le)

  -- on to a loop's next member
  pub spent_again : (p g g' member next : ℕ) (l l' : Loop) (u : Text) → Some (body_of l) ≡ body_at c p → l.left ≡ u ∷ l'.left → next ≤ length u
      → l'.start ≡ l.start → l'.end ≡ l.end → SpentIn (Some l) member p g → Within (Some l) member p g g' → SpentIn (Some l') next l.start g'
  spent_again p g g' member next l l' u e left short starts ends' h le =
      let i = is_in c p (body_of l) (sym e) in
      let high : p < l.end = i.high in
      let turn = one_more _ member h.turns h.past _ _ _ (w p) _ (t p) g g' (part w p l.end l e high) (part t p l.end l e high) h.bound le in
      let count : length l.left ≡ 1 + length l'.left = ap length left ∙ (omega arith) in
      let bytes : sum_by length l.left ≡ length u + sum_by length l'.left = ap (sum_by length) left ∙ sum_by-cons length u l'.left in
      let none_w : inner c w l.start - inner c w l.start ≡ 0 = omega arith in
      let none_t : inner c t l.start - inner c t l.start ≡ 0 = omega arith in
      record {
        turns = h.turns + 1;
        past = h.past + member;
        few = omega (arith, h.few, count);
        small = omega (arith, h.small, bytes);
        bound = rw (starts, ends', none_w, none_t) (omega (arith, turn));
      }

  -- all that a run may spend, with the step at a place in the code
  pub spent_at_end : (p g g' member : ℕ) (l : Option Loop) → option_map body_of l ≡ body_at c p → p < length c.instrs → SpentIn l member p g
      → Within l member p g g' → g' ≤ outside c w + M * inside c w + E * inside c t
  spent_at_end p g g' member None e lt h le =
      let here = total_outside c w p (sym e) in
      let m1 = total_le (where_outside c w) (suc p) (length c.instrs) (omega arith) in
      let m2 = mul-le-mul_left M (total_le (where_inside c w) p (length c.instrs) (omega arith)) in
      let m3 = mul-le-mul_left E (total_le (where_inside c t) p (length c.instrs) (omega arith)) in
      omega arith
  spent_at_end p g g' member (Some l) e lt h le =
      let i = is_in c p (body_of l) (sym e) in
      let low : l.start ≤ p = i.low in
      let high : p < l.end = i.high in
      let fits : l.end < length c.instrs = i.origin.1.fits_in in
      let m1 = total_le (where_outside c w) l.start (length c.instrs) (omega arith) in
      let m2 = mul-le-mul_left M (total_le (where_inside c w) l.end (length c.instrs) (omega arith)) in
      let m3 = mul-le-mul_left E (total_le (where_inside c t) l.end (length c.instrs) (omega arith)) in
      omega (arith, whole p g g' member l e h le)
