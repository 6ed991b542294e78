-- Why a file is not placed in memory.
use Rattle.std.proofs.Common.{◌≡◌, ◌≢◌, ◌⊎◌, ◌∙◌, Bool, true, false, inl, inr, refl, subst, sym}
use Rattle.std.specs.Str.{bytes_eq}
use Rattle.std.proofs.lemmas.Bool.{false≢true}
use Rattle.std.proofs.lemmas.Slice.Eq.{bytes_eq-Decides}
use Rattle.text_model.specs.Texts.{Text}
use Rattle.files.specs.Found.{Disk, Found, Absent, Other}
use Rattle.files.specs.Changes.{ChangesOnly, Unchanged}
use Rattle.files.specs.Failures.{HasFailedThere}
use Rattle.files.specs.Placing.{IsAsBefore, IsDraftCall, IsPlaceFailure, IsUnwritten, beside, no_check, no_draft, no_file, unwritten}
use Rattle.files.specs.declared.call.FileCall.{FileCall}
use Rattle.files.specs.declared.call.FileCall.TheVariants as call
use Rattle.files_in_memory.specs.InMemory.{HasRefused, IsRefusedCall, disk_of}
use Rattle.files_in_memory.specs.declared.memory.Memory.{Memory}

-- no call fails on a new file that is there
not_refused : (call : FileCall) (at : Found) → IsDraftCall call → at ≢ Absent → IsRefusedCall call at → ⊥
not_refused call.Read at is there refused = is
not_refused call.Check at is there refused = is
not_refused call.Create at is there refused = is
not_refused call.SetMode at is there refused = refused
not_refused call.Write at is there refused = refused
not_refused call.Keep at is there refused = refused
not_refused call.Rename at is there refused = there refused
not_refused call.Remove at is there refused = is

not_free : (old new : Memory) (path : Text) → IsUnwritten disk_of HasRefused (disk_of old) path new → disk_of old (beside path) ≢ Absent
not_free old new path (no_draft before same refused) absent = refused (same (beside path) ∙ absent)
not_free old new path (no_file free why) absent = not_refused why.0 (disk_of why.3.before (beside path)) why.2 why.3.there why.3.failed

pub for_what_is_there : (old new : Memory) (path : Text) → IsPlaceFailure disk_of HasRefused old path new
    → (disk_of old path ≡ Other) ⊎ (disk_of old (beside path) ≢ Absent)
for_what_is_there old new path (no_check refused) = inl refused
for_what_is_there old new path (unwritten regular why) = inr (not_free old new path why)

-- a path that is unchanged, as are all others
everywhere : (path : Text) (old new : Disk) → ChangesOnly path old new → new path ≡ old path → Unchanged old new
everywhere path old new others same other = by (bytes_eq path other) refl
  where
    by : (is : Bool) → bytes_eq path other ≡ is → new other ≡ old other
    by true is = subst (λ p. new p ≡ old p) ((bytes_eq-Decides path other).0 is) same
    by false is = others other (λ e. false≢true (sym is ∙ (bytes_eq-Decides path other).1 (sym e)))

not_left : (old new : Memory) (path : Text)
    → (disk_of new (beside path) ≡ disk_of old (beside path)) ⊎ HasFailedThere disk_of HasRefused (disk_of old) call.Remove (beside path) new
    → disk_of new (beside path) ≡ disk_of old (beside path)
not_left old new path (inl same) = same
not_left old new path (inr left) = absurd (left.there left.failed)

pub as_before : (old new : Memory) (path : Text) → IsAsBefore disk_of HasRefused (disk_of old) path new → Unchanged (disk_of old) (disk_of new)
as_before old new path was = everywhere (beside path) (disk_of old) (disk_of new) was.others (not_left old new path was.nothing_left)
