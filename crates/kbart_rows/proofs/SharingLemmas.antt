-- What is noted of the groups of an index.
use Rattle.std.proofs.Common.{◌≡◌, ◌≢◌, ℕ, ◌+◌, ◌-◌, ◌≤◌, ◌<◌, Bool, true, false, List, get_or, length, refl, sym, ap, subst, ◌∙◌, arith, nat_lt}
use Rattle.std.proofs.lemmas.List.{get_or_default}
use Rattle.kbart_rows.specs.Private.Groups.{AreFresh, AreLooser, AreNoted, AreWithin, IsAtLeast, IsNoted}
use Rattle.kbart_rows.specs.Private.Index.{AreSmall, IsOrdered}
use Rattle.kbart_rows.specs.declared.index.Entry.{Entry}
use Rattle.kbart_rows.specs.declared.sharing.Sharing.{Sharing}
use Rattle.kbart_rows.proofs.IndexLemmas.{hashes_rise}

-- ---- notes that say no more

still_noted : (entries : List Entry) (hash first most new_first new_most : ℕ) → new_first ≤ first → most ≤ new_most
    → IsNoted entries hash first most → IsNoted entries hash new_first new_most
still_noted entries hash first most new_first new_most less more noted = record {
  from = λ k d within same. let old = noted.from k d within same in omega (arith, less, old);
  start = noted.start;
  end = noted.end;
  within = noted.within;
  few = let old = noted.few in omega (arith, more, old);
}

pub looser_same : (notes : List Sharing) → AreLooser notes notes
looser_same notes = record { size = refl; first = λ row e. omega arith; rows = λ row e. omega arith }

pub looser_twice : (old mid new : List Sharing) → AreLooser old mid → AreLooser mid new → AreLooser old new
looser_twice old mid new one two = record {
  size = two.size ∙ one.size;
  first = λ row e. let a = one.first row e in let b = two.first row e in omega (arith, a, b);
  rows = λ row e. let a = one.rows row e in let b = two.rows row e in omega (arith, a, b);
}

pub at_least_looser : (old new : List Sharing) (row first most : ℕ) → AreLooser old new → IsAtLeast old row first most → IsAtLeast new row first most
at_least_looser old new row first most looser least e within =
    let size = looser.size in
    let part = least e (omega (arith, within, size)) in
    let low = part.0 in
    let high = part.1 in
    let less = looser.first row e in
    let more = looser.rows row e in
    (omega (arith, low, less), omega (arith, high, more))

pub fresh_looser : (old new : List Sharing) → AreLooser old new → AreFresh old → AreFresh new
fresh_looser old new looser fresh row e within =
    let size = looser.size in
    let part = fresh row e (omega (arith, within, size)) in
    let low = part.0 in
    let high = part.1 in
    let less = looser.first row e in
    let more = looser.rows row e in
    (omega (arith, low, less), omega (arith, high, more))

-- ---- a group

-- all entries before the place have smaller hashes than those from it on
abbrev pub AreSeparate : List Entry → ℕ → Type 0
AreSeparate entries place = (j k : ℕ) (d : Entry) → j < place → place ≤ k → k < length entries → (get_or entries j d).hash < (get_or entries k d).hash

-- the entries from `start` to `end` have one hash, which the next has not
pub record IsGroup (entries : List Entry) (start end : ℕ) : Type 0 where
  pub some : start < end
  pub inside : end ≤ length entries
  pub same : (k : ℕ) (d : Entry) → start ≤ k → k < end → (get_or entries k d).hash ≡ (get_or entries start d).hash
  pub ends : (d : Entry) → end < length entries → (get_or entries end d).hash ≢ (get_or entries start d).hash

pub next_separate : (entries : List Entry) (start end : ℕ) → IsOrdered entries → AreSmall entries → AreSeparate entries start → IsGroup entries start end
    → AreSeparate entries end
next_separate entries start end order small separate group j k d before after inside =
    by_test (nat_lt j start) refl (nat_lt (get_or entries start d).hash (get_or entries end d).hash) refl
  where
    by_test : (b : Bool) → nat_lt j start ≡ b → (c : Bool) → nat_lt (get_or entries start d).hash (get_or entries end d).hash ≡ c
        → (get_or entries j d).hash < (get_or entries k d).hash
    by_test true less c rise =
        let some = group.some in
        let early : j < start = grind arith in
        let one = separate j start d early (omega arith) (omega (arith, some, after, inside)) in
        let two = hashes_rise entries start k d order small (omega (arith, some, after)) inside in
        omega (arith, one, two)
    by_test false more true rise =
        let late : start ≤ j = grind arith in
        let one = group.same j d late before in
        let two : (get_or entries start d).hash < (get_or entries end d).hash = grind arith in
        let three = hashes_rise entries end k d order small after inside in
        omega (arith, one, two, three)
    by_test false more false rise =
        let some = group.some in
        let within : end < length entries = omega (arith, after, inside) in
        let high : (get_or entries end d).hash ≤ (get_or entries start d).hash = grind arith in
        let low = hashes_rise entries start end d order small (omega (arith, some)) within in
        absurd (group.ends d within (omega (arith, high, low)))

group_within : (entries : List Entry) (start end : ℕ) (e : Entry) → AreSeparate entries start → AreSeparate entries end → IsGroup entries start end
    → AreWithin entries (get_or entries start e).hash start end
group_within entries start end e before after group k d inside same = (low (nat_lt k start) refl, high (nat_lt k end) refl)
  where
    is : (get_or entries start e).hash ≡ (get_or entries start d).hash
    is = let some = group.some in
        let within = group.inside in
        ap (λ (entry : Entry). entry.hash) (get_or_default entries start e d (omega (arith, some, within)))

    low : (b : Bool) → nat_lt k start ≡ b → start ≤ k
    low true less =
        let some = group.some in
        let within = group.inside in
        let early : k < start = grind arith in
        let smaller = before k start d early (omega arith) (omega (arith, some, within)) in
        absurd (omega (arith, smaller, same, is))
    low false more = grind arith

    high : (b : Bool) → nat_lt k end ≡ b → k < end
    high true less = grind arith
    high false more =
        let late : end ≤ k = grind arith in
        let larger = after start k d group.some late inside in
        absurd (omega (arith, larger, same, is))

rows_rise : (entries : List Entry) (i j : ℕ) (d : Entry) → IsOrdered entries → i ≤ j → j < length entries
    → (get_or entries i d).hash ≡ (get_or entries j d).hash → (get_or entries i d).row ≤ (get_or entries j d).row
rows_rise entries i j d order le inside same = let keys = order i j d le inside in omega (arith, keys, same)

group_noted : (entries : List Entry) (start end : ℕ) (d : Entry) → IsOrdered entries → AreSeparate entries start → AreSeparate entries end
    → IsGroup entries start end → IsNoted entries (get_or entries start d).hash (get_or entries start d).row (end - start)
group_noted entries start end d order before after group =
    let within = group_within entries start end d before after group in
    record {
      from = λ k e inside same.
          let is : get_or entries k e ≡ get_or entries k d = get_or_default entries k e d inside in
          let hash : (get_or entries start d).hash ≡ (get_or entries k d).hash = sym same ∙ ap (λ (entry : Entry). entry.hash) is in
          let row : (get_or entries k e).row ≡ (get_or entries k d).row = ap (λ (entry : Entry). entry.row) is in
          let low = rows_rise entries start k d order (within k e inside same).0 inside hash in
          omega (arith, low, row);
      start = start;
      end = end;
      within = within;
      few = omega arith;
    }

-- ---- one more group

pub record AreNotedSoFar (entries : List Entry) (size start : ℕ) (notes : List Sharing) : Type 0 where
  pub size_is : length notes ≡ size
  pub within : start ≤ length entries
  pub fresh : AreFresh notes
  pub noted : AreNoted entries start notes
  pub separate : AreSeparate entries start

pub one_group_more : (entries : List Entry) (size start end : ℕ) (old new : List Sharing) → IsOrdered entries → AreSmall entries
    → AreNotedSoFar entries size start old → IsGroup entries start end → AreLooser old new
    → ((k : ℕ) (d : Entry) → start ≤ k → k < end → IsAtLeast new (get_or entries k d).row (get_or entries start d).row (end - start))
    → AreNotedSoFar entries size end new
one_group_more entries size start end old new order small so_far group looser least =
    let separate = next_separate entries start end order small so_far.separate group in
    record {
      size_is = looser.size ∙ so_far.size_is;
      within = group.inside;
      fresh = fresh_looser old new looser so_far.fresh;
      noted = λ k d e below inside row. by_place k d e below inside row (nat_lt k start) refl;
      separate = separate;
    }
  where
    by_place : (k : ℕ) (d : Entry) (e : Sharing) → k < end → k < length entries → (get_or entries k d).row < length new
        → (b : Bool) → nat_lt k start ≡ b
        → IsNoted entries (get_or entries k d).hash (get_or new (get_or entries k d).row e).first (get_or new (get_or entries k d).row e).rows
    by_place k d e below inside row true less =
        let early : k < start = grind arith in
        let size = looser.size in
        let first = looser.first (get_or entries k d).row e in
        let rows = looser.rows (get_or entries k d).row e in
        still_noted entries (get_or entries k d).hash _ _ _ _ first rows (so_far.noted k d e early inside (omega (arith, row, size)))
    by_place k d e below inside row false more =
        let late : start ≤ k = grind arith in
        let part = least k d late below e row in
        let same = group.same k d late below in
        let noted = group_noted entries start end d order so_far.separate (next_separate entries start end order small so_far.separate group) group in
        subst (λ (hash : ℕ). IsNoted entries hash (get_or new (get_or entries k d).row e).first (get_or new (get_or entries k d).row e).rows) (sym same)
        (still_noted entries (get_or entries start d).hash _ _ _ _ part.0 part.1 noted)

-- a group of one says nothing that was not noted before
pub one_is_fresh : (entries : List Entry) (start end : ℕ) (notes : List Sharing) → end ≤ start + 1 → AreFresh notes
    → (k : ℕ) (d : Entry) → start ≤ k → k < end → IsAtLeast notes (get_or entries k d).row (get_or entries start d).row (end - start)
one_is_fresh entries start end notes one fresh k d late below e row =
    let is : k ≡ start = omega (arith, one, late, below) in
    let same : (get_or entries k d).row ≡ (get_or entries start d).row = ap (λ at. (get_or entries at d).row) is in
    let part = fresh (get_or entries k d).row e row in
    let low = part.0 in
    let high = part.1 in
    (omega (arith, low, same), omega (arith, high, one))
