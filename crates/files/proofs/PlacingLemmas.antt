-- What failed while a file was placed, seen from the state before its creation.
use Rattle.std.proofs.Common.{◌≡◌, ◌≢◌, ◌⊎◌, ◌∙◌, Err, Ok, Result, ap, inl, inr, refl}
use Rattle.std.specs.Result.{IfErr, IsErrAnd, OnErr, OnOk}
use Rattle.text_model.specs.Texts.{Text}
use Rattle.files.specs.Found.{Disk, Found, NotTold, Absent, Unfinished, File, Other, IsFree}
use Rattle.files.specs.Changes.{ChangesOnly, Unchanged, created, removed}
use Rattle.files.specs.Failures.{HasFailedThere}
use Rattle.files.specs.Placing.{IsDraftFailure}
use Rattle.files.specs.declared.call.FileCall.{FileCall}
use Rattle.files.specs.declared.call.FileCall.TheVariants.{Remove}
use Rattle.files.specs.declared.error.FileError.{FileError}
use Rattle.files.specs.declared.error.FileError.TheVariants.{Failed}

-- the exit of a `?` returns the error that was met
pub met : {T E : Type 0} (result : Result T E) (e f : E) → IsErrAnd result (λ error. error ≡ e) → result ≡ Err f → e ≡ f
met (Ok x) e f made is = absurd made
met (Err x) e f made is = cc

-- what was created where nothing was is gone once it is removed
pub gone_again : (found : Found) → IsFree found → removed (created found) ≡ found
gone_again NotTold free = refl
gone_again Absent free = refl
gone_again Unfinished free = absurd free
gone_again (File all) free = absurd free
gone_again Other free = absurd free

module _ {F : Type 0} (at : F → Disk) (fails : F → FileCall → Text → F → Type 0) (old created : Disk) (path : Text) (same : ChangesOnly path old created) where
  failed_earlier : (call : FileCall) (after : F) → HasFailedThere at fails created call path after → HasFailedThere at fails old call path after
  failed_earlier call after why = record {
    before = why.before;
    there = why.there;
    others = λ other apart. why.others other apart ∙ same other apart;
    failed = why.failed;
  }

  pub not_filled_earlier : IsDraftFailure at fails created path → IsDraftFailure at fails old path
  not_filled_earlier why = (why.0, why.1, why.2, failed_earlier why.0 why.1 why.3)

  -- how the new file is removed that was not filled
  pub record IsRemoval (filled new : F) (result : Result (Unit {0}) FileError) : Type 0 where
    pub others : OnOk result (ChangesOnly path (at filled) (at new))
    pub err : OnErr result (Unchanged (at filled) (at new))
    pub gone : OnOk result (at new path ≡ removed (at filled path))
    pub kind : IfErr result (λ e. e ≡ Failed)
    pub failed : result ≡ Err Failed → fails filled Remove path new

  module _ (filled new : F) (changed : ChangesOnly path created (at filled)) where
    pub others_same : (result : Result (Unit {0}) FileError) → IsRemoval filled new result → ChangesOnly path old (at new)
    others_same (Ok done) removal other apart = removal.others other apart ∙ changed other apart ∙ same other apart
    others_same (Err e) removal other apart = removal.err other ∙ changed other apart ∙ same other apart

    pub gone_or_left : (result : Result (Unit {0}) FileError) → IsRemoval filled new result → removed (at filled path) ≡ old path → at filled path ≢ Absent
        → (at new path ≡ old path) ⊎ HasFailedThere at fails old Remove path new
    gone_or_left (Ok done) removal left remains = inl (removal.gone ∙ left)
    gone_or_left (Err e) removal left remains = inr (record {
      before = filled;
      there = remains;
      others = λ other apart. changed other apart ∙ same other apart;
      failed = removal.failed (ap Err removal.kind);
    })
