-- Two readings of the same bytes end at the same place.
use Rattle.std.proofs.Common.{◌≡◌, ℕ, ◌<◌, ◌≤◌, ◌⊎◌, inl, inr, true, List, [], ◌∷◌, ◌++◌, Option, Some, None, length, refl, sym}
use Rattle.std.proofs.Common.{ap, ◌∙◌, subst, arith}
use Rattle.std.specs.Prelude.{◌↔◌}
use Rattle.std.proofs.lemmas.Bool.{cases_lt, false≢true}
use Rattle.std.proofs.lemmas.List.{append-nil, length-append, take-append-le, take_all}
use Rattle.std.proofs.Math.Seq.{take-append_seam, take-length}
use Rattle.std.proofs.lemmas.Option.{none-some, same_Some}
use Rattle.http_streams.specs.Closing.{is_closed}
use Rattle.http_streams.specs.Streams.{Reads, IsAtEnd}
use Rattle.http_streams.specs.declared.read.TheConstants.{MAX_HEAD_BYTES}
use Rattle.http_request.specs.HeadEnd.{IsFirstClosedAt}
use Rattle.reply_laws.specs.Peers.{EndAlike, IsReadOf}
use Rattle.reply_laws.proofs.ClosedHeads.{closed_more}

-- what was read of the bytes that a peer sends, and why reading stopped there
pub record IsPart (sent bytes : List ℕ) : Type 0 where
  pub rest : List ℕ
  pub whole : sent ≡ bytes ++ rest
  pub limit : length bytes ≤ MAX_HEAD_BYTES
  pub stopped : (is_closed bytes ≡ true) ⊎ (length bytes ≡ MAX_HEAD_BYTES) ⊎ (rest ≡ [])

pub part_of : (sent bytes : List ℕ) → IsReadOf sent bytes → IsPart sent bytes
part_of sent bytes r = by_left r.first.left r.last.left r.peer r.read.read.left r.read.stopped
  where
    by_left : (old new : Option (List ℕ)) → old ≡ Some sent → Reads old bytes new
        → (is_closed bytes ≡ true) ⊎ (length bytes ≡ MAX_HEAD_BYTES) ⊎ IsAtEnd new → IsPart sent bytes
    by_left None new peer reads stopped = absurd (none-some sent peer)
    by_left (Some left) None peer reads stopped = absurd reads
    by_left (Some left) (Some rest) peer reads stopped =
        record { rest = rest; whole = sym (same_Some left sent peer) ∙ reads; limit = r.read.limit; stopped = stopped }

-- of two beginnings of a list the shorter is a beginning of the longer
pub beginning : (xs ys zs ws : List ℕ) → xs ++ ys ≡ zs ++ ws → length xs ≤ length zs → (more : List ℕ) × (zs ≡ xs ++ more)
beginning [] ys zs ws same short = (zs, refl)
beginning (x ∷ xs) ys [] ws same short = absurd (omega (arith, short))
beginning (x ∷ xs) ys (z ∷ zs) ws same short =
    let first : x ≡ z = cc in
    let others : xs ++ ys ≡ zs ++ ws = cc in
    let rest = beginning xs ys zs ws others (omega (arith, short)) in
    (rest.0, ap (λ (l : List ℕ). z ∷ l) rest.1 ∙ ap (λ (b : ℕ). b ∷ (xs ++ rest.0)) (sym first))

-- the longer reading has more only if the shorter one is closed
pub data IsFurther (bytes others : List ℕ) : Type 0 where
  no_further : bytes ≡ others → IsFurther bytes others
  further : (more : List ℕ) → others ≡ bytes ++ more → is_closed bytes ≡ true → IsFurther bytes others

pub is_further : (sent bytes others : List ℕ) → IsPart sent bytes → IsPart sent others → length bytes ≤ length others → IsFurther bytes others
is_further sent bytes others a b short =
    let found = beginning bytes a.rest others b.rest (sym a.whole ∙ b.whole) short in
    by_more found.0 found.1 a.stopped
  where
    by_more : (more : List ℕ) → others ≡ bytes ++ more → (is_closed bytes ≡ true) ⊎ (length bytes ≡ MAX_HEAD_BYTES) ⊎ (a.rest ≡ []) → IsFurther bytes others
    by_more [] is stopped = no_further (sym (is ∙ append-nil bytes))
    by_more (m ∷ more) is (inl closed) = further (m ∷ more) is closed
    by_more (m ∷ more) is (inr (inl full)) =
        let long = ap length is ∙ length-append bytes (m ∷ more) in
        absurd (omega (arith, long, full, b.limit))
    by_more (m ∷ more) is (inr (inr ended)) =
        let long = ap length is ∙ length-append bytes (m ∷ more) in
        let all = ap length a.whole ∙ length-append bytes a.rest in
        let also = ap length b.whole ∙ length-append others b.rest in
        let none = ap length ended in
        absurd (omega (arith, long, all, also, none))

-- ---- the first empty line

-- it is within the bytes
closed_within : (bytes : List ℕ) (count : ℕ) → IsFirstClosedAt bytes count → count ≤ length bytes
closed_within bytes count h = by_length (cases_lt (length bytes) count)
  where
    by_length : (length bytes < count) ⊎ (count ≤ length bytes) → count ≤ length bytes
    by_length (inr within) = within
    by_length (inl past) =
        let whole = h.open_before (length bytes) past in
        absurd (false≢true (sym whole ∙ ap is_closed (take-length bytes ∙ sym (take_all count bytes (omega (arith, past)))) ∙ h.closed))

module _ (bytes more : List ℕ) (closed : is_closed bytes ≡ true) where
  first_kept : (count : ℕ) → count ≤ length bytes → IsFirstClosedAt bytes count → IsFirstClosedAt (bytes ++ more) count
  first_kept count within h =
      record {
        closed = ap is_closed (take-append-le count bytes more within) ∙ h.closed;
        open_before = λ fewer below. ap is_closed (take-append-le fewer bytes more (omega (arith, below, within))) ∙ h.open_before fewer below;
      }

  first_before : (count : ℕ) → count ≤ length bytes → IsFirstClosedAt (bytes ++ more) count → IsFirstClosedAt bytes count
  first_before count within h =
      record {
        closed = ap is_closed (sym (take-append-le count bytes more within)) ∙ h.closed;
        open_before = λ fewer below. ap is_closed (sym (take-append-le fewer bytes more (omega (arith, below, within)))) ∙ h.open_before fewer below;
      }

  pub not_later : (count : ℕ) → IsFirstClosedAt (bytes ++ more) count → count ≤ length bytes
  not_later count h = by_length (cases_lt (length bytes) count)
    where
      by_length : (length bytes < count) ⊎ (count ≤ length bytes) → count ≤ length bytes
      by_length (inr within) = within
      by_length (inl past) = absurd (false≢true (sym (h.open_before (length bytes) past) ∙ ap is_closed (take-append_seam bytes more) ∙ closed))

  same_first : (count : ℕ) → IsFirstClosedAt bytes count ↔ IsFirstClosedAt (bytes ++ more) count
  same_first count = (λ h. first_kept count (closed_within bytes count h) h, λ h. first_before count (not_later count h) h)

alike : (bytes others : List ℕ) → IsFurther bytes others → EndAlike bytes others
alike bytes others (no_further same) = subst (EndAlike bytes) same (record { closed = λ count. (λ h. h, λ h. h); unclosed = λ none. refl })
alike bytes others (further more is closed) =
    subst (EndAlike bytes) (sym is) (record { closed = same_first bytes more closed; unclosed = λ none. absurd (false≢true (sym none ∙ closed)) })

turned : (bytes others : List ℕ) → IsFurther others bytes → EndAlike bytes others
turned bytes others (no_further same) = alike bytes others (no_further (sym same))
turned bytes others (further more is closed) =
    let other_way = alike others bytes (further more is closed) in
    record {
      closed = λ count. ((other_way.closed count).1, (other_way.closed count).0);
      unclosed = λ none. absurd (false≢true (sym none ∙ ap is_closed is ∙ closed_more others more closed));
    }

pub end_alike : (sent bytes others : List ℕ) → IsPart sent bytes → IsPart sent others → EndAlike bytes others
end_alike sent bytes others a b = by_length (cases_lt (length others) (length bytes))
  where
    by_length : (length others < length bytes) ⊎ (length bytes ≤ length others) → EndAlike bytes others
    by_length (inl shorter) = turned bytes others (is_further sent others bytes b a (omega (arith, shorter)))
    by_length (inr longer) = alike bytes others (is_further sent bytes others a b longer)
