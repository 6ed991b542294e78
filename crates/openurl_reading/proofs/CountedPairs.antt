-- The pairs that count, one pair at a time.
use Rattle.std.proofs.Common.{◌≡◌, ℕ, ◌+◌, ◌-◌, ◌<◌, ◌≤◌, List, [], ◌∷◌, ◌++◌, take, length, get_or, true, false, cond, append-nil, refl, ap, ◌∙◌, sym, arith}
use Rattle.std.proofs.lemmas.List.{take_more, take_all, take-append-le, length-take, length-append}
use Rattle.std.proofs.lemmas.List.Elements.{filter-append}
use Rattle.kev_read.specs.Pairs.{KeyValue}
use Rattle.openurl_reading.specs.Counting.{accepted, is_accepted, most_pairs}

accepted_more : (pairs : List KeyValue) (i : ℕ) (d : KeyValue) → i < length pairs
    → accepted (take (i + 1) pairs) ≡ accepted (take i pairs) ++ cond (is_accepted (get_or pairs i d)) (get_or pairs i d ∷ []) []
accepted_more pairs i d h =
    ap accepted (take_more pairs i d h) ∙ filter-append is_accepted (take i pairs) (get_or pairs i d ∷ [])

-- a pair that is not accepted changes nothing
pub accepted_same : (pairs : List KeyValue) (i : ℕ) (d : KeyValue) → i < length pairs → is_accepted (get_or pairs i d) ≡ false
    → accepted (take (i + 1) pairs) ≡ accepted (take i pairs)
accepted_same pairs i d h off = accepted_more pairs i d h ∙ rw off (append-nil (accepted (take i pairs)))

pub accepted_one : (pairs : List KeyValue) (i : ℕ) (d : KeyValue) → i < length pairs → is_accepted (get_or pairs i d) ≡ true
    → accepted (take (i + 1) pairs) ≡ accepted (take i pairs) ++ get_or pairs i d ∷ []
accepted_one pairs i d h on = accepted_more pairs i d h ∙ rw on refl

-- while there are few, one more counts
pub counting_one : (list : List KeyValue) (pair : KeyValue) → length (take most_pairs list) < most_pairs
    → take most_pairs (list ++ pair ∷ []) ≡ take most_pairs list ++ pair ∷ []
counting_one list pair few =
    let short : length list < most_pairs = omega (arith, length-take most_pairs list) in
    let more : length (list ++ pair ∷ []) ≤ most_pairs = simp length-append (omega arith) in
    take_all most_pairs (list ++ pair ∷ []) more ∙ ap (λ l. l ++ pair ∷ []) (sym (take_all most_pairs list (omega arith)))

pub none_left_out : (list : List KeyValue) (pair : KeyValue) → length (take most_pairs list) < most_pairs
    → length (list ++ pair ∷ []) - most_pairs ≡ length list - most_pairs
none_left_out list pair few =
    let short : length list < most_pairs = omega (arith, length-take most_pairs list) in simp length-append (omega arith)

-- beyond their maximum number, one more is left out
pub counting_full : (list : List KeyValue) (pair : KeyValue) → most_pairs ≤ length (take most_pairs list)
    → take most_pairs (list ++ pair ∷ []) ≡ take most_pairs list
counting_full list pair full =
    let long : most_pairs ≤ length list = omega (arith, length-take most_pairs list) in take-append-le most_pairs list (pair ∷ []) long

pub one_left_out : (list : List KeyValue) (pair : KeyValue) → most_pairs ≤ length (take most_pairs list)
    → length (list ++ pair ∷ []) - most_pairs ≡ length list - most_pairs + 1
one_left_out list pair full =
    let long : most_pairs ≤ length list = omega (arith, length-take most_pairs list) in simp length-append (omega arith)
