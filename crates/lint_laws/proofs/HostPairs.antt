-- Two links with one host, and parts that end a host.
use Rattle.std.proofs.Common.{arith, ◌≡◌, ℕ, Bool, true, false, cond, List, [], ◌∷◌, ◌++◌, Some, None, refl, ◌⊎◌}
use Rattle.std.proofs.lemmas.Grind.{common_steps}
use Rattle.std.specs.Option.{unwrap_or}
use Rattle.std.proofs.lemmas.Bool.{both_ways}
use Rattle.text_model.specs.Texts.{Text}
use Rattle.environment_model.specs.Environment.{LookUp}
use Rattle.uri_grammar.specs.declared.parts.Op.{Op}
use Rattle.uri_grammar.specs.declared.parts.Op.TheVariants as operator
use Rattle.uri_grammar.specs.declared.parts.Part.{Part}
use Rattle.uri_grammar.specs.declared.parts.Part.TheVariants.{Literal, Expression}
use Rattle.rule_parser.specs.Names.{each_once}
use Rattle.uri_template.specs.Expansion.{expansion, led, style_of}
use Rattle.rule_lint.specs.declared.host_state.HostState.{HostState}
use Rattle.rule_lint.specs.declared.host_state.HostState.TheVariants.{Outside, Slash, Past}
use Rattle.rule_lint.specs.HostStates.{ends_host, is_inside, is_past, state_of}
use Rattle.rule_lint.specs.Host.{ends_next, host_of, leads_past_host}
use Rattle.lint_laws.specs.RowLinks.{IsPlainHost}
use Rattle.lint_laws.proofs.HostStates.{IsCovered}
use Rattle.lint_laws.proofs.HostEnds.{IsEnd, IsFound, host_ended, host_past, host_plain}
use Rattle.lint_laws.proofs.PieceLemmas.{IsPlainStyle}

-- ---- two links

-- they have the same host, which is plain, or they are the same and have no `//`
abbrev pub HaveOneHost : Text → Text → Type 0
HaveOneHost link alone =
    ((host_of link ≡ host_of alone) × IsPlainHost (host_of link)) ⊎ ((state_of link ≡ Outside) ⊎ (state_of link ≡ Slash))

-- both go on after a host that has ended
pub both_past : (t u v : Text) → state_of t ≡ Past → HaveOneHost (t ++ u) (t ++ v)
both_past t u v h = grind (arith, host_past, host_plain)

-- or they end one
pub both_ended : (t u v : Text) → IsFound (state_of t) → IsEnd u → IsEnd v → HaveOneHost (t ++ u) (t ++ v)
both_ended t u v h e f = grind (arith, host_ended, host_plain)

-- ---- parts that end the host, or write nothing

pub end_more : (t u : Text) → IsEnd t → IsEnd u → IsEnd (t ++ u)
end_more t u h k = grind (arith, common_steps)

-- what is before `/`, `?` and `#` ends the host
pub first_is_end : (op : Op) → leads_past_host op ≡ true → (c : ℕ) × ((style_of op).first ≡ c ∷ []) × (ends_host c ≡ true)
first_is_end operator.Slash e = (0x2F, refl, refl)
first_is_end operator.Question e = (0x3F, refl, refl)
first_is_end operator.Hash e = (0x23, refl, refl)
first_is_end other e = absurd (both_ways false refl e)

pub expression_ends : (op : Op) (texts : List Text) → leads_past_host op ≡ true → IsEnd (led (style_of op) texts)
expression_ends op texts e = grind (arith, common_steps)

pub parts_end : (look : LookUp) (parts : List Part) → ends_next parts ≡ true → IsEnd (expansion look parts)
parts_end look [] e = tt
parts_end look (Literal [] ∷ parts) e = parts_end look parts e
parts_end look (Literal (b ∷ text) ∷ parts) e = e
parts_end look (Expression op specs ∷ parts) e = by_op (leads_past_host op) refl e (parts_end look parts)
  where
    by_op : (ends : Bool) → leads_past_host op ≡ ends → unwrap_or (cond ends None (Some false)) (ends_next parts) ≡ true
        → (ends_next parts ≡ true → IsEnd (expansion look parts)) → IsEnd (expansion look (Expression op specs ∷ parts))
    by_op ends f e later = grind (arith, common_steps)

-- ---- operators

pub dot_style : IsPlainStyle (style_of operator.Dot)
dot_style = record { unnamed = refl; writing = refl; first = (refl, tt); sep = (refl, tt) }

-- ---- covered states

pub covered_past : (c s : HostState) → is_past s ≡ true → IsCovered c s → c ≡ Past
covered_past c s e k = grind (arith, common_steps)

pub covered_inside : (c s : HostState) → is_inside s ≡ true → IsCovered c s → IsFound c
covered_inside c s e k = grind (arith, common_steps)

-- ---- no names

pub none_of_both : (xs ys : List Text) → xs ++ ys ≡ [] → (xs ≡ []) × (ys ≡ [])
none_of_both [] ys e = (refl, e)
none_of_both (x ∷ xs) ys e = absurd (cc)

pub no_first : (names : List Text) → each_once names ≡ [] → names ≡ []
no_first [] e = refl
no_first (name ∷ names) e = absurd (cc)
