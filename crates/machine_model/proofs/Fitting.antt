-- What follows if a value has a kind, and if registers fit kinds.
use Rattle.std.proofs.Common.{◌≡◌, ℕ, List, Option, Some, None, refl, ◌⊎◌, inl, inr, arith}
use Rattle.std.proofs.lemmas.Grind.{common_steps}
use Rattle.text_model.specs.Texts.{Text}
use Rattle.machine_model.specs.declared.kind.Kind.{Kind}
use Rattle.machine_model.specs.declared.kind.Kind.TheVariants.{Any, OptText, Text as TextKind, List as ListKind, Number as NumberKind}
use Rattle.machine_model.specs.Values.{Value, Undefined, Text as TextValue, List as ListValue, Number as NumberValue, text_or_undefined}
use Rattle.machine_model.specs.States.{put}
use Rattle.machine_model.specs.Kinds.{Kinds, IsBelow, need}
use Rattle.machine_model.specs.Typable.{IsMet}
use Rattle.machine_model.specs.Fitting.{kind_of, HasKind, Fits}
use Rattle.machine_model.proofs.Orders.{kind_le_trans}

pub is_text : (x : Value) → HasKind x TextKind → (t : Text) × (x ≡ TextValue t)
is_text (TextValue t) h = (t, refl)
is_text _ h = absurd (cc)

pub is_opt_text : (x : Value) → HasKind x OptText → (x ≡ Undefined) ⊎ ((t : Text) × (x ≡ TextValue t))
is_opt_text Undefined h = inl refl
is_opt_text (TextValue t) h = inr (t, refl)
is_opt_text _ h = absurd (cc)

pub is_list : (x : Value) → HasKind x ListKind → (ts : List Text) × (x ≡ ListValue ts)
is_list (ListValue ts) h = (ts, refl)
is_list _ h = absurd (cc)

pub is_number : (x : Value) → HasKind x NumberKind → (n : ℕ) × (x ≡ NumberValue n)
is_number (NumberValue n) h = (n, refl)
is_number _ h = absurd (cc)

pub text_or_undefined-kind : (o : Option Text) → HasKind (text_or_undefined o) OptText
text_or_undefined-kind None = refl
text_or_undefined-kind (Some t) = refl

pub fits_put : (ks : Kinds) (regs : ℕ → Value) (a : ℕ) (k : Kind) (x : Value) → Fits ks regs → HasKind x k → Fits (put ks a k) (put regs a x)
fits_put ks regs a k x f h = grind (arith, common_steps)

-- a register whose kind is forgotten
pub fits_any : (ks : Kinds) (regs : ℕ → Value) (a : ℕ) → Fits ks regs → Fits (put ks a Any) regs
fits_any ks regs a f = grind (arith, common_steps)

-- a register that is known to hold a value of a kind
pub fits_known : (ks : Kinds) (regs : ℕ → Value) (a : ℕ) (k : Kind) → Fits ks regs → HasKind (regs a) k → Fits (put ks a k) regs
fits_known ks regs a k f h = grind (arith, common_steps)

pub fits_below : (ks ks' : Kinds) (regs : ℕ → Value) → IsBelow ks ks' → Fits ks regs → Fits ks' regs
fits_below ks ks' regs b f = record { at = λ r. kind_le_trans (kind_of (regs r)) (ks r) (ks' r) (f.at r) (b.at r) }

pub fits_need : (ks : Kinds) (regs : ℕ → Value) (r : ℕ) (k : Kind) → Fits ks regs → IsMet ks (need r k) → HasKind (regs r) k
fits_need ks regs r k f m = kind_le_trans (kind_of (regs r)) (ks r) k (f.at r) m
