-- Environments after the pairs of small queries are added, computed, and what the limits of an environment reject.
use Rattle.std.proofs.Common.{◌≡◌, ℕ, true, false, List, [], ◌∷◌, ◌++◌, length, refl, codes, arith, inl, inr, true≢false}
use Rattle.std.specs.Prelude.{map, sum_by}
use Rattle.std.specs.List.{repeat}
use Rattle.text_model.specs.Texts.{Text}
use Rattle.environment_model.specs.Environment.{Environment, Entry, Single, Several}
use Rattle.target_vars.specs.declared.error.VarsError.TheVariants.{TooLarge}
use Rattle.kev_read.proofs.OnLiterals.{kev_read_on_literals}
use Rattle.kev_read.specs.Pairs.{KeyValue, pairs_of}
use Rattle.kev_read.specs.ReadQuery.{ReadQuery, IsBounded}
use Rattle.kev_read.specs.Filling.{is_added, MemberIsTooLarge, TextIsTooLarge, filled, StopsAtPair}

abbrev pair : Text → Text → KeyValue
pair key value = record { key = key; value = value }

abbrev text : Text → Text → Entry
text name t = record { name = name; meaning = Single t }

abbrev list : Text → List Text → Entry
list name members = record { name = name; meaning = Several members }

-- ---- what the pairs add

first_text_stays : filled [] [] (pairs_of (codes "b=1&a=2&b=3&c=&c=4")) ≡ text (codes "b") (codes "1") ∷ text (codes "a") (codes "2") ∷ text (codes "c") [] ∷ []
unfolding kev_read_on_literals
first_text_stays = refl

authors_and_identifiers_are_lists : filled [] [] (pairs_of (codes "rft.au=A&rft_id=I&rft.title=T&rft.au=&rft_id=J&rft.au=A"))
    ≡ list (codes "rft.au") (codes "A" ∷ [] ∷ codes "A" ∷ []) ∷ list (codes "rft_id") (codes "I" ∷ codes "J" ∷ []) ∷ text (codes "rft.title") (codes "T") ∷ []
unfolding kev_read_on_literals
authors_and_identifiers_are_lists = refl

declared_keys_are_lists : filled (codes "sid" ∷ [] ∷ codes "none" ∷ []) [] (pairs_of (codes "sid=1&svc_id=2&=3&sid=4&svc_id=5&=6"))
    ≡ list (codes "sid") (codes "1" ∷ codes "4" ∷ []) ∷ text (codes "svc_id") (codes "2") ∷ list [] (codes "3" ∷ codes "6" ∷ []) ∷ []
unfolding kev_read_on_literals
declared_keys_are_lists = refl

other_keys_are_texts : filled (codes "sid" ∷ []) [] (pairs_of (codes "RFT.AU=1&RFT.AU=2&rft.aulast=3&rft_ids=4&Sid=5&=6&ctx_ver=7"))
    ≡ text (codes "RFT.AU") (codes "1") ∷ text (codes "rft.aulast") (codes "3") ∷ text (codes "rft_ids") (codes "4") ∷ text (codes "Sid") (codes "5") ∷ text []
    (codes "6") ∷ text (codes "ctx_ver") (codes "7") ∷ []
unfolding kev_read_on_literals
other_keys_are_texts = refl

-- a text and a list
abbrev before : Environment
before = text (codes "t") (codes "0") ∷ list (codes "l") (codes "0" ∷ []) ∷ []

-- the text stays even if its key is declared as a list, and the list stays if it is not
what_was_there_stays : filled (codes "t" ∷ []) before (pairs_of (codes "t=1&l=2&n=3")) ≡ before ++ text (codes "n") (codes "3") ∷ []
unfolding kev_read_on_literals
what_was_there_stays = refl

list_that_was_there_grows : filled (codes "l" ∷ []) before (pairs_of (codes "l=1&t=2&l=3")) ≡ text (codes "t") (codes "0") ∷ list (codes "l")
    (codes "0" ∷ codes "1" ∷ codes "3" ∷ []) ∷ []
unfolding kev_read_on_literals
list_that_was_there_grows = refl

-- whether a member is added to a text, to a list and under a new name
added_members : map (λ key. is_added true before (pair key [])) (codes "t" ∷ codes "l" ∷ codes "n" ∷ []) ≡ false ∷ true ∷ true ∷ []
unfolding kev_read_on_literals
added_members = refl

added_texts : map (λ key. is_added false before (pair key [])) (codes "t" ∷ codes "l" ∷ codes "n" ∷ []) ≡ false ∷ false ∷ true ∷ []
unfolding kev_read_on_literals
added_texts = refl

-- ---- the limits of an environment: 1,048,576 bytes and 65,535 members

abbrev one_text : Text → Environment
one_text t = text (codes "t") t ∷ []

two_bytes_fit : (t : Text) → length t ≡ 1048574 → ¬ (TextIsTooLarge (one_text t) (pair (codes "n") (codes "22")))
    × ¬ (MemberIsTooLarge (one_text t) (pair (codes "n") (codes "22")))
two_bytes_fit t long = (λ large. omega (arith, long, large.1), λ large. omega (arith, long, large.1))

-- the bytes of the names are not counted
third_byte_is_too_large : (t : Text) → length t ≡ 1048574 → TextIsTooLarge (one_text t) (pair (codes "n") (codes "333"))
    × MemberIsTooLarge (one_text t) (pair (codes "n") (codes "333"))
unfolding kev_read_on_literals
third_byte_is_too_large t long = ((refl, omega (arith, long)), (refl, inl (omega (arith, long))))

nothing_is_too_large_where_it_is_not_added : (t : Text) → ¬ (TextIsTooLarge (one_text t) (pair (codes "t") (codes "333")))
    × ¬ (MemberIsTooLarge (one_text t) (pair (codes "t") (codes "333")))
unfolding kev_read_on_literals
nothing_is_too_large_where_it_is_not_added t = (λ large. true≢false large.0, λ large. true≢false large.0)

abbrev one_list : List Text → Environment
one_list members = list (codes "l") members ∷ []

member_past_the_last_is_too_large : (members : List Text) → length members ≡ 65535 → sum_by length members ≡ 0
    → MemberIsTooLarge (one_list members) (pair (codes "l") []) × MemberIsTooLarge (one_list members) (pair (codes "n") [])
unfolding kev_read_on_literals
member_past_the_last_is_too_large members many empty = ((refl, inr (omega (arith, many))), (refl, inr (omega (arith, many))))

last_member_fits : (members : List Text) → length members ≡ 65534 → sum_by length members ≡ 0 → ¬ (MemberIsTooLarge (one_list members) (pair (codes "l") []))
    × ¬ (MemberIsTooLarge (one_list members) (pair (codes "n") []))
last_member_fits members many empty = (λ large. omega (arith, many, empty, large.1), λ large. omega (arith, many, empty, large.1))

text_is_no_member : (members : List Text) → length members ≡ 65535 → sum_by length members ≡ 0 → ¬ (TextIsTooLarge (one_list members) (pair (codes "n") []))
text_is_no_member members many empty large = omega (arith, empty, large.1)

-- the first of three pairs fits, and the second is rejected
filling_stops_at_a_refused_pair : (t : Text) → length t ≡ 1048575
    → StopsAtPair (codes "l" ∷ []) (one_text t) (pairs_of (codes "x=1&y=2&z=")) (one_text t ++ text (codes "x") (codes "1") ∷ []) TooLarge
unfolding kev_read_on_literals
filling_stops_at_a_refused_pair t long = record {
  before = pair (codes "x") (codes "1") ∷ [];
  refused = pair (codes "y") (codes "2");
  after = pair (codes "z") [] ∷ [];
  in_order = refl;
  reached = refl;
  is_added = refl;
  too_large = (λ _. (refl, omega (arith, long)), λ _. refl);
}

-- ---- what holds for every request that is read

abbrev request_of : ℕ → List KeyValue → ReadQuery
request_of query_bytes pairs = record { pairs = pairs; query_bytes = query_bytes }

-- a byte of the query may be three of a value
largest_request : IsBounded (request_of 65536 (repeat 4096 (pair [] (codes "333") ∷ []))) × IsBounded (request_of 1 (pair (codes "name") (codes "333") ∷ []))
largest_request = (
  record { query_bytes = omega arith; pairs = omega arith; values = omega arith },
  record { query_bytes = omega arith; pairs = omega arith; values = omega arith },
)

larger_requests : ¬ (IsBounded (request_of 65537 [])) × ¬ (IsBounded (request_of 65536 (repeat 4097 (pair [] [] ∷ []))))
    × ¬ (IsBounded (request_of 1 (pair [] (codes "4444") ∷ [])))
larger_requests = (λ bounded. omega (arith, bounded.query_bytes), λ bounded. omega (arith, bounded.pairs), λ bounded. omega (arith, bounded.values))
