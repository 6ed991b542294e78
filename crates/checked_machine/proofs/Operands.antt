-- What is known about operands that are right.
use Rattle.std.proofs.Common.{◌≡◌, ℕ, List, [], ◌∷◌, Option, Some, None, Bool, true, false, ◌&&◌, not, refl, subst, arith}
use Rattle.std.specs.Prelude.{slice_get, length, ◌==◌}
use Rattle.std.specs.List.{list_all, AllByRecursion}
use Rattle.std.proofs.lemmas.Bool.{and_parts, ltb-true}
use Rattle.std.proofs.lemmas.Option.{slice_get_within, get_or_from_slice_get}
use Rattle.std.proofs.lemmas.List.Elements.{All-get_or}
use Rattle.code_model.specs.Code.{Code, Literal}
use Rattle.text_model.specs.UriText.{IsUriText}
use Rattle.text_model.proofs.TruthValues.{if_below}
use Rattle.code_model.specs.declared.code.Instruction.{Instruction}
use Rattle.code_model.specs.Operands.{Operand, Register, TextName, ListName, LinkText, Compared, Items, Mode, operands, is_in_range}
use Rattle.machine_model.specs.Operands.{register_count, is_register, is_in_table, has_table_kind, is_right, has_right_operands, is_link_text, literal_at}
use Rattle.machine_model.specs.Operands.{text_of_literal}
use Rattle.code_file.specs.Grammar.{IsCode, IsLiteral, IsTextOf}
use Rattle.checked_machine.specs.Private.Given.{IsGiven, AreGiven}

-- the conditions for an operand to be right, one at a time
in_table : (c : Code) (o : Operand) → is_right c o ≡ true → is_in_table c o ≡ true
in_table c o e =
    (and_parts (is_in_table c o) (has_table_kind c o)
    ((and_parts (is_register c o) (is_in_table c o && has_table_kind c o) ((and_parts (is_in_range o) _ e).1)).1)).0

of_kind : (c : Code) (o : Operand) → is_right c o ≡ true → has_table_kind c o ≡ true
of_kind c o e =
    (and_parts (is_in_table c o) (has_table_kind c o)
    ((and_parts (is_register c o) (is_in_table c o && has_table_kind c o) ((and_parts (is_in_range o) _ e).1)).1)).1

as_register : (c : Code) (o : Operand) → is_right c o ≡ true → is_register c o ≡ true
as_register c o e = (and_parts (is_register c o) (is_in_table c o && has_table_kind c o) ((and_parts (is_in_range o) _ e).1)).0

not_compared : (l : Literal) → IsLiteral l → not l.compared ≡ true → IsUriText l.bytes
not_compared l h e = by_kind l.compared refl
  where
    by_kind : (b : Bool) → l.compared ≡ b → IsUriText l.bytes
    by_kind true k = absurd (let z : not true ≡ true = subst (λ x. not x ≡ true) k e in cc)
    by_kind false k = subst (λ x. IsTextOf x l.bytes) k h.text

-- the link texts of a code are URI text
link_text : (c : Code) (n : ℕ) → IsCode c → is_link_text (slice_get c.literals n) ≡ true → IsUriText (literal_at c n)
link_text c n h e = by_entry (slice_get c.literals n) refl e
  where
    by_entry : (o : Option Literal) → slice_get c.literals n ≡ o → is_link_text o ≡ true → IsUriText (text_of_literal o)
    by_entry None k t = absurd (cc)
    by_entry (Some l) k t =
        not_compared l (subst IsLiteral (get_or_from_slice_get c.literals n l l k)
        (All-get_or IsLiteral c.literals n l (slice_get_within c.literals n l k) h.literals)) t

given : (c : Code) (o : Operand) → IsCode c → is_right c o ≡ true → IsGiven c o
given c (Register n) h e = if_below (c.version == 2) n 64 16 (omega arith) (ltb-true n (register_count c) (as_register c (Register n) e))
given c (TextName n) h e = ltb-true n (length c.names) (in_table c (TextName n) e)
given c (ListName n) h e = ltb-true n (length c.names) (in_table c (ListName n) e)
given c (LinkText n) h e = (ltb-true n (length c.literals) (in_table c (LinkText n) e), link_text c n h (of_kind c (LinkText n) e))
given c (Compared n) h e = ltb-true n (length c.literals) (in_table c (Compared n) e)
given c (Items n) h e = tt
given c (Mode n) h e = tt

all_given : (c : Code) (os : List Operand) → IsCode c → list_all (is_right c) os ≡ true → AllByRecursion (IsGiven c) os
all_given c [] h e = tt
all_given c (o ∷ os) h e = let parts = and_parts (is_right c o) (list_all (is_right c) os) e in (given c o h parts.0, all_given c os h parts.1)

pub are_given : (c : Code) (i : Instruction) → IsCode c → has_right_operands c i ≡ true → AreGiven c i
unfolding has_right_operands
are_given c i h e = all_given c (operands i) h e
