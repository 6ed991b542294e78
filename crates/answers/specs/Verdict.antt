-- The verdict on code.
use Rattle.std.specs.Prelude.{◌≡◌, ℕ, ◌++◌, [], ◌∷◌, codes, Result, Ok, Err}
use Rattle.std.specs.Fmt.{decimal}
use Rattle.text_model.specs.Texts.{Text}
use Rattle.code_model.specs.Code.{Code}
use Rattle.machine_model.specs.Budget.{Sums, sums_of}
use Rattle.verifier.specs.Accepted.{IsAcceptedFile}
use Rattle.answers.specs.Reading.{IsNotAccepted}
use Rattle.answers.specs.declared.refusal.Refusal.{Refusal}
use Rattle.answers.specs.declared.refusal.Refusal.TheVariants.{Memory}

abbrev pub newline : Text
newline = 10 ∷ []

-- the line with the bound on steps, in terms of M
abbrev pub steps_line : ℕ → ℕ → Text
steps_line s0 s1 = codes "steps " ++ (decimal s0 ++ (codes " + " ++ (decimal s1 ++ (codes "*M" ++ newline))))

-- the line with the bound on bytes of output, in terms of M and E
abbrev pub bytes_line : ℕ → ℕ → ℕ → ℕ → Text
bytes_line o0 o1 o2 o3 =
    codes "bytes " ++ (decimal o0 ++ (codes " + " ++ (decimal o1 ++ (codes "*M + " ++ (decimal o2 ++ (codes "*E + " ++ (decimal o3
    ++ (codes "*M*E" ++ newline))))))))

-- three lines: that the code is accepted, its bound on steps, and its bound on bytes of output
abbrev pub verdict : Sums → Text
verdict b = (codes "ok" ++ newline) ++ (steps_line b.s0 b.s1 ++ bytes_line b.o0 b.o1 b.o2 b.o3)

-- the lines for accepted code, or the first reason why it is not accepted
pub data IsVerdictOf (bytes : Text) : Result Text Refusal → Type 0 where
  no_memory : (code : Code) → IsAcceptedFile bytes code → IsVerdictOf bytes (Err Memory)
  not_accepted : (e : Refusal) → IsNotAccepted bytes e → IsVerdictOf bytes (Err e)
  accepted : (code : Code) (text : Text) → IsAcceptedFile bytes code → text ≡ verdict (sums_of code) → IsVerdictOf bytes (Ok text)
