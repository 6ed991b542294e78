-- The shape for each case of the compiler.
use Rattle.std.proofs.Common.{◌≡◌, ℕ, zero, suc, [], ◌∷◌, ◌++◌, length, ◌==◌, true, false, refl, sym, ◌∙◌, codes}
use Rattle.std.proofs.Math.Dec.{eqb-suc-zero}
use Rattle.text_model.specs.Texts.{Text}
use Rattle.text_model.specs.declared.writing.Writing.{Writing}
use Rattle.compiler_model.specs.declared.lines.Action.{Action}
use Rattle.compiler_model.specs.declared.lines.Action.TheVariants.{LoadConst, Emits, Cuts}
use Rattle.compiler_model.specs.declared.lines.Test.TheVariants.{IsEmpty}
use Rattle.compiler_model.specs.Blocks.{Does, Then, Either, lines}
use Rattle.compiler_model.specs.Shapes.{lead_block, writing_action, named_block}

pub lead_later : (first sep : Text) → (length first == 0) ≡ true → lines (lead_block first sep) ≡ lines (lead_block [] sep)
lead_later [] sep e = refl
lead_later (b ∷ first) sep e = absurd (cc (sym e ∙ eqb-suc-zero (length first)))

pub lead_first : (first sep : Text) → (length first == 0) ≡ false
    → lines (lead_block first sep) ≡ lines (Then (Either (IsEmpty 4) (Does (Emits sep)) (Does (Emits first))) (Does (LoadConst 4 (codes "1"))))
lead_first [] sep e = absurd (cc (e))
lead_first (b ∷ first) sep e = refl

pub named_bare : (ifemp : Text) (r : ℕ) (name : Text) (value : Action) → (length ifemp == 0) ≡ true → lines (named_block ifemp r name value)
    ≡ lines (named_block [] r name value)
named_bare [] r name value e = refl
named_bare (b ∷ ifemp) r name value e = absurd (cc (sym e ∙ eqb-suc-zero (length ifemp)))

pub named_always : (ifemp : Text) (r : ℕ) (name : Text) (value : Action) → (length ifemp == 0) ≡ false → lines (named_block ifemp r name value)
    ≡ lines (Then (Does (Emits (name ++ codes "="))) (Does value))
named_always [] r name value e = absurd (cc (e))
named_always (b ∷ ifemp) r name value e = refl

pub writes_prefix : (r : ℕ) (w : Writing) (n : ℕ) → (n == 0) ≡ false → writing_action r w n ≡ Cuts r n w
writes_prefix r w zero e = absurd (cc (e))
writes_prefix r w (suc n) e = refl
