-- How much E and M of a request grow if one more list is declared.
use Rattle.std.proofs.Common.{◌≡◌, ℕ, ◌+◌, Bool, true, false, ◌||◌, List, [], ◌∷◌, ◌++◌, map, filter, length, None, is_some, bytes_eq, refl, sym, ap, ◌∙◌}
use Rattle.std.proofs.Common.{subst, append_assoc, append-nil, arith, length-append, if◌then◌else◌}
use Rattle.std.specs.Prelude.{sum_by}
use Rattle.std.proofs.lemmas.List.{map-append}
use Rattle.std.proofs.lemmas.List.Elements.{filter-append}
use Rattle.std.proofs.lemmas.List.Folds.{list_any-append}
use Rattle.std.proofs.lemmas.List.Sums.{fold_push, sum_by_push}
use Rattle.std.proofs.lemmas.Slice.Eq.{bytes_eq-Decides}
use Rattle.std.proofs.Math.Bool.{or-false, or-true}
use Rattle.text_model.specs.Texts.{Text}
use Rattle.environment_model.specs.Environment.{Environment, is_there, is_among, byte_count, member_count}
use Rattle.environment_model.specs.Lists.{is_list, standard_lists}
use Rattle.environment_model.proofs.Environments.{byte_count-with_text, member_count-with_text, byte_count-with_member, member_count-with_member}
use Rattle.environment_model.proofs.Environments.{with_text-known}
use Rattle.kev_read.specs.Pairs.{KeyValue, all_of, has_key}
use Rattle.kev_read.specs.Filling.{added, fill_one, filled}
use Rattle.row_laws.specs.Shadowing.{requested, first_bytes}
use Rattle.environment_model.proofs.NameTests.{differs_back}
use Rattle.row_laws.proofs.RequestedEntries.{grown, look_up-requested, text_requested}

-- ---- one more list

or_last : (a b c : Bool) → (a || (b || c)) ≡ ((a || c) || b)
or_last true b c = refl
or_last false true true = refl
or_last false true false = refl
or_last false false true = refl
or_last false false false = refl

one_more : (l : Text) (lists : List Text) (key : Text) → is_list (l ∷ lists) key ≡ (is_list lists key || bytes_eq l key)
one_more l lists key =
    list_any-append (λ n. bytes_eq n key) standard_lists (l ∷ lists)
    ∙ or_last (is_among key standard_lists) (bytes_eq l key) (is_among key lists)
    ∙ ap (λ b. b || bytes_eq l key) (sym (list_any-append (λ n. bytes_eq n key) standard_lists lists))

-- ---- one more pair

all_of-push : (pairs : List KeyValue) (pair : KeyValue) (key : Text) → all_of (pairs ++ pair ∷ []) key ≡ all_of pairs key ++ all_of (pair ∷ []) key
all_of-push pairs pair key =
    ap (map (λ p. p.value)) (filter-append (has_key key) pairs (pair ∷ []))
    ∙ map-append (λ (p : KeyValue). p.value) (filter (has_key key) pairs) (filter (has_key key) (pair ∷ []))

all_of-one : (pair : KeyValue) (key : Text) → bytes_eq pair.key key ≡ true → all_of (pair ∷ []) key ≡ pair.value ∷ []
all_of-one pair key same = rw same refl

all_of-none : (pair : KeyValue) (key : Text) → bytes_eq pair.key key ≡ false → all_of (pair ∷ []) key ≡ []
all_of-none pair key differs = rw differs refl

requested-push : (lists : List Text) (pairs : List KeyValue) (pair : KeyValue)
    → requested lists (pairs ++ pair ∷ []) ≡ fill_one lists (requested lists pairs) pair
requested-push lists pairs pair = fold_push (fill_one lists) [] pairs pair

-- what a pair adds to E, if its key already has these values
abbrev weight : List Text → Bool → ℕ → ℕ
weight [] list n = n
weight (v ∷ vs) true n = n
weight (v ∷ vs) false n = 0

always : (vs : List Text) (n : ℕ) → weight vs true n ≡ n
always [] n = refl
always (v ∷ vs) n = refl

pair_bytes : (lists : List Text) (pairs : List KeyValue) (pair : KeyValue)
    → byte_count (fill_one lists (requested lists pairs) pair)
    ≡ byte_count (requested lists pairs) + weight (all_of pairs pair.key) (is_list lists pair.key) (length pair.value)
pair_bytes lists pairs pair = by_list (is_list lists pair.key) refl
  where
    by_values : (vs : List Text) → all_of pairs pair.key ≡ vs → is_list lists pair.key ≡ false
        → byte_count (added false (requested lists pairs) pair) ≡ byte_count (requested lists pairs) + weight vs false (length pair.value)
    by_values [] none is =
        byte_count-with_text (requested lists pairs) pair.key pair.value
        (ap is_some (look_up-requested lists pairs pair.key ∙ ap (λ vs. grown vs (is_list lists pair.key) None) none))
    by_values (v ∷ vs) some is =
        let there : is_there (requested lists pairs) pair.key ≡ true =
        ap is_some (look_up-requested lists pairs pair.key ∙ ap (λ us. grown us (is_list lists pair.key) None) some ∙ ap (λ b. grown (v ∷ vs) b None) is) in
        ap byte_count (with_text-known (requested lists pairs) pair.key pair.value there) ∙ omega arith

    by_list : (b : Bool) → is_list lists pair.key ≡ b
        → byte_count (fill_one lists (requested lists pairs) pair)
        ≡ byte_count (requested lists pairs) + weight (all_of pairs pair.key) (is_list lists pair.key) (length pair.value)
    by_list true is = grind (arith, text_requested, byte_count-with_member)
    by_list false is =
        ap (λ b. byte_count (added b (requested lists pairs) pair)) is
        ∙ by_values (all_of pairs pair.key) refl is
        ∙ ap (λ b. byte_count (requested lists pairs) + weight (all_of pairs pair.key) b (length pair.value)) (sym is)

pair_members : (lists : List Text) (pairs : List KeyValue) (pair : KeyValue)
    → member_count (fill_one lists (requested lists pairs) pair) ≡ member_count (requested lists pairs) + (if is_list lists pair.key then 1 else 0)
pair_members lists pairs pair = grind (arith, text_requested, member_count-with_member, member_count-with_text)

-- ---- all pairs

module _ (l : Text) (lists : List Text) (new : is_list lists l ≡ false) where
  abbrev BytesAre : List KeyValue → Type 0
  BytesAre pairs = byte_count (requested (l ∷ lists) pairs) + first_bytes (all_of pairs l) ≡ byte_count (requested lists pairs) + sum_by length (all_of pairs l)

  abbrev MembersAre : List KeyValue → Type 0
  MembersAre pairs = member_count (requested (l ∷ lists) pairs) ≡ member_count (requested lists pairs) + length (all_of pairs l)

  own_list : (key : Text) → bytes_eq key l ≡ true → is_list (l ∷ lists) key ≡ true
  own_list key same =
      one_more l lists key ∙ ap (λ b. is_list lists key || b) ((bytes_eq-Decides l key).1 (sym ((bytes_eq-Decides key l).0 same))) ∙ or-true (is_list lists key)

  own_new : (key : Text) → bytes_eq key l ≡ true → is_list lists key ≡ false
  own_new key same = ap (is_list lists) ((bytes_eq-Decides key l).0 same) ∙ new

  other_list : (key : Text) → bytes_eq key l ≡ false → is_list (l ∷ lists) key ≡ is_list lists key
  other_list key differs = one_more l lists key ∙ ap (λ b. is_list lists key || b) (differs_back key l differs) ∙ or-false (is_list lists key)

  -- the claim for the values of the list, given the bytes with it and without it
  abbrev Gain : ℕ → ℕ → List Text → Type 0
  Gain with without vs = with + first_bytes vs ≡ without + sum_by length vs

  -- the values of the list after one more was added
  grows : (vs : List Text) (v : Text) (with without with' without' : ℕ) → with + first_bytes vs ≡ without + sum_by length vs
      → with' ≡ with + length v → without' ≡ without + weight vs false (length v)
      → with' + first_bytes (vs ++ v ∷ []) ≡ without' + sum_by length (vs ++ v ∷ [])
  grows [] v with without with' without' before more more' =
      let one = sum_by_push length [] v in
      omega (arith, before, more, more', one)
  grows (u ∷ us) v with without with' without' before more more' =
      let all = sum_by_push length (u ∷ us) v in
      omega (arith, before, more, more', all)

  bytes_next : (pairs : List KeyValue) (pair : KeyValue) → BytesAre pairs → BytesAre (pairs ++ pair ∷ [])
  bytes_next pairs pair before = by_key (bytes_eq pair.key l) refl
    where
      by_key : (b : Bool) → bytes_eq pair.key l ≡ b → BytesAre (pairs ++ pair ∷ [])
      by_key true same =
          let vs = all_of pairs l in
          let with = byte_count (requested (l ∷ lists) pairs) in
          let without = byte_count (requested lists pairs) in
          let left : byte_count (requested (l ∷ lists) (pairs ++ pair ∷ [])) ≡ with + length pair.value =
          ap byte_count (requested-push (l ∷ lists) pairs pair) ∙ pair_bytes (l ∷ lists) pairs pair
          ∙ ap (λ b. with + weight (all_of pairs pair.key) b (length pair.value)) (own_list pair.key same)
          ∙ ap (λ m. with + m) (always (all_of pairs pair.key) (length pair.value)) in
          let right : byte_count (requested lists (pairs ++ pair ∷ [])) ≡ without + weight vs false (length pair.value) =
          ap byte_count (requested-push lists pairs pair) ∙ pair_bytes lists pairs pair
          ∙ ap (λ b. without + weight (all_of pairs pair.key) b (length pair.value)) (own_new pair.key same)
          ∙ ap (λ k. without + weight (all_of pairs k) false (length pair.value)) ((bytes_eq-Decides pair.key l).0 same) in
          let values : all_of (pairs ++ pair ∷ []) l ≡ vs ++ pair.value ∷ [] = all_of-push pairs pair l ∙ ap (λ us. vs ++ us) (all_of-one pair l same) in
          let with' = byte_count (requested (l ∷ lists) (pairs ++ pair ∷ [])) in
          let without' = byte_count (requested lists (pairs ++ pair ∷ [])) in
          subst (Gain with' without') (sym values) (grows vs pair.value with without with' without' before left right)
      by_key false differs = grind (arith, requested-push, pair_bytes, other_list, all_of-push, all_of-none, append-nil)

  members_next : (pairs : List KeyValue) (pair : KeyValue) → MembersAre pairs → MembersAre (pairs ++ pair ∷ [])
  members_next pairs pair before = by_key (bytes_eq pair.key l) refl
    where
      by_key : (b : Bool) → bytes_eq pair.key l ≡ b → MembersAre (pairs ++ pair ∷ [])
      by_key true same = grind (arith, requested-push, pair_members, own_list, own_new, all_of-push, length-append)
      by_key false differs = grind (arith, requested-push, pair_members, other_list, all_of-push, append-nil)

  bytes_all : (rest pairs : List KeyValue) → BytesAre pairs → BytesAre (pairs ++ rest)
  bytes_all [] pairs h = subst BytesAre (sym (append-nil pairs)) h
  bytes_all (pair ∷ rest) pairs h = subst BytesAre (append_assoc pairs (pair ∷ []) rest) (bytes_all rest (pairs ++ pair ∷ []) (bytes_next pairs pair h))

  members_all : (rest pairs : List KeyValue) → MembersAre pairs → MembersAre (pairs ++ rest)
  members_all [] pairs h = subst MembersAre (sym (append-nil pairs)) h
  members_all (pair ∷ rest) pairs h = subst MembersAre (append_assoc pairs (pair ∷ []) rest) (members_all rest (pairs ++ pair ∷ []) (members_next pairs pair h))

  pub bytes_of_list : (pairs : List KeyValue) → BytesAre pairs
  bytes_of_list pairs = bytes_all pairs [] refl

  pub members_of_list : (pairs : List KeyValue) → MembersAre pairs
  members_of_list pairs = members_all pairs [] refl

-- ---- lists that make the same keys lists

pub same_filled : (lists others : List Text) (env : Environment) (pairs : List KeyValue) → ((key : Text) → is_list lists key ≡ is_list others key)
    → filled lists env pairs ≡ filled others env pairs
same_filled lists others env [] same = refl
same_filled lists others env (pair ∷ pairs) same =
    ap (λ b. filled lists (added b env pair) pairs) (same pair.key) ∙ same_filled lists others (fill_one others env pair) pairs same

pub same_requested : (lists others : List Text) (pairs : List KeyValue) → ((key : Text) → is_list lists key ≡ is_list others key)
    → requested lists pairs ≡ requested others pairs
same_requested lists others pairs same = same_filled lists others [] pairs same

-- a list that is declared already
pub known_list : (l : Text) (lists : List Text) (pairs : List KeyValue) → is_list lists l ≡ true → requested (l ∷ lists) pairs ≡ requested lists pairs
known_list l lists pairs known = same_requested (l ∷ lists) lists pairs (λ key. one_more l lists key ∙ by_key key (bytes_eq l key) refl)
  where
    by_key : (key : Text) (b : Bool) → bytes_eq l key ≡ b → (is_list lists key || b) ≡ is_list lists key
    by_key key true same =
        let is : is_list lists key ≡ true = ap (is_list lists) (sym ((bytes_eq-Decides l key).0 same)) ∙ known in
        or-true (is_list lists key) ∙ sym is
    by_key key false differs = or-false (is_list lists key)
