-- Modifiers and specs: what the reader needs to know of them, and that a text is at most one spec.
use Rattle.std.proofs.Common.{◌≡◌, ℕ, ◌+◌, ◌<◌, ◌≤◌, Bool, true, false, ◌⊎◌, ⊎_elim, inl, inr, List, [], ◌∷◌, ◌++◌, length, get_or, drop, take, refl, ap, ◌∙◌}
use Rattle.std.proofs.lemmas.Grind.{common_steps}
use Rattle.std.proofs.Common.{sym, subst, arith, append_assoc, take-append-drop, length-append, ◌==◌, ◌&&◌, nat_eq, Some, None}
use Rattle.std.proofs.Math.Seq.{take-add, take-append-add}
use Rattle.std.proofs.lemmas.Bool.{cases_Bool, cond-true, cond-false, eqb-true, and_parts, false≢true}
use Rattle.std.proofs.lemmas.List.{drop_more, length-take-le, drop-append-le}
use Rattle.std.proofs.lemmas.Option.{same_Some}
use Rattle.text_model.specs.Number.{value_from}
use Rattle.uri_grammar.specs.Characters.{comma}
use Rattle.uri_grammar.specs.declared.error.TemplateError.{TemplateError}
use Rattle.uri_grammar.specs.declared.error.TemplateErrorKind.{TemplateErrorKind}
use Rattle.uri_grammar.specs.declared.parts.Spec.{Spec}
use Rattle.uri_grammar.specs.declared.names.TheConstants.{MAX_NAME_BYTES}
use Rattle.uri_grammar.specs.declared.variables.TheConstants.{MAX_PREFIX}
use Rattle.uri_grammar.specs.Private.Lengths.{varchar_len, next_len}
use Rattle.uri_grammar.specs.Names.{BeginsWithVarname}
use Rattle.uri_grammar.specs.Specs.{is_max_length, IsModifier, no_modifier, explode_modifier, prefix_modifier, IsSpec, Lacks, BeginsWithSpec, SpellsSpecs}
use Rattle.uri_grammar.specs.Faults.{begins_with_modifier, IsNamed, IsSpecFault, bad_name, bad_modifier, IsListFault}
use Rattle.uri_grammar.specs.Private.Reading.{modifier_of, IsFault}
use Rattle.uri_grammar.specs.Private.Moved.{moved, moved_place}
use Rattle.uri_grammar.proofs.NameLemmas.{longest_same, ended_varname, varchar_len-varname}
use Rattle.uri_grammar.proofs.NumberLemmas.{max_length_range}

-- ---- modifiers

colon_same : (xs ys : List ℕ) → 58 ∷ xs ≡ 58 ∷ ys → xs ≡ ys
colon_same xs ys e = cc

nil_cons : (c : ℕ) (cs : List ℕ) → [] ≡ c ∷ cs → ⊥
nil_cons c cs e = cc

star_colon : (cs : List ℕ) → 42 ∷ [] ≡ 58 ∷ cs → ⊥
star_colon cs e = cc

same_nothing : (b : List ℕ) (n : ℕ) (y : Bool) → [] ≡ b → IsModifier b n y → (0 ≡ n) × (false ≡ y)
same_nothing b n y e no_modifier = (refl, refl)
same_nothing b n y e explode_modifier = absurd (nil_cons 42 [] e)
same_nothing b n y e (prefix_modifier k p) = absurd (nil_cons 58 k e)

same_explode : (b : List ℕ) (n : ℕ) (y : Bool) → 42 ∷ [] ≡ b → IsModifier b n y → (0 ≡ n) × (true ≡ y)
same_explode b n y e no_modifier = absurd (nil_cons 42 [] (sym e))
same_explode b n y e explode_modifier = (refl, refl)
same_explode b n y e (prefix_modifier k p) = absurd (star_colon k e)

same_prefix : (b j : List ℕ) (n : ℕ) (y : Bool) → 58 ∷ j ≡ b → IsModifier b n y → (value_from 0 j ≡ n) × (false ≡ y)
same_prefix b j n y e no_modifier = absurd (nil_cons 58 j (sym e))
same_prefix b j n y e explode_modifier = absurd (star_colon j (sym e))
same_prefix b j n y e (prefix_modifier k p) = (ap (value_from 0) (colon_same j k e), refl)

modifier_same : (a b : List ℕ) (m n : ℕ) (x y : Bool) → a ≡ b → IsModifier a m x → IsModifier b n y → (m ≡ n) × (x ≡ y)
modifier_same a b m n x y e no_modifier k = same_nothing b n y e k
modifier_same a b m n x y e explode_modifier k = same_explode b n y e k
modifier_same a b m n x y e (prefix_modifier j p) k = same_prefix b j n y e k

-- a name ends where a modifier begins
modifier_ends : (a : List ℕ) (m : ℕ) (x : Bool) → IsModifier a m x → (next_len a ≡ 0) × ((a ≡ []) ⊎ (begins_with_modifier a ≡ true))
modifier_ends a m x no_modifier = (refl, inl refl)
modifier_ends a m x explode_modifier = (refl, inr refl)
modifier_ends a m x (prefix_modifier digits p) = grind (arith, common_steps)

-- a prefix is at most the maximum, and an exploded variable has no prefix
pub modifier_range : (a : List ℕ) (m : ℕ) (x : Bool) → IsModifier a m x → (m ≤ MAX_PREFIX) × (x ≡ true → m ≡ 0)
modifier_range a m x no_modifier = (omega arith, λ _. refl)
modifier_range a m x explode_modifier = (omega arith, λ _. refl)
modifier_range a m x (prefix_modifier digits p) = ((max_length_range digits p).1, λ e. absurd (false≢true e))

modifier_is : (cs : List ℕ) (m : ℕ) (x : Bool) → IsModifier cs m x → modifier_of cs ≡ Some (m, x)
modifier_is cs m x no_modifier = refl
modifier_is cs m x explode_modifier = refl
modifier_is cs m x (prefix_modifier digits p) = cond-true (is_max_length digits) _ _ p

explode_here : (c : ℕ) (cs : List ℕ) (p : ℕ × Bool) → c ≡ 42 → length cs ≡ 0 → p ≡ (0, true) → IsModifier (c ∷ cs) p.0 p.1
explode_here c [] p e l q =
    subst (λ (t : ℕ × Bool). IsModifier (c ∷ []) t.0 t.1) (sym q) (subst (λ (x : ℕ). IsModifier (x ∷ []) 0 true) (sym e) explode_modifier)
explode_here c (d ∷ cs) p e l q = absurd (omega arith)

prefix_here : (c : ℕ) (cs : List ℕ) (p : ℕ × Bool) → c ≡ 58 → is_max_length cs ≡ true → p ≡ (value_from 0 cs, false) → IsModifier (c ∷ cs) p.0 p.1
prefix_here c cs p e t q =
    subst (λ (m : ℕ × Bool). IsModifier (c ∷ cs) m.0 m.1) (sym q)
    (subst (λ (x : ℕ). IsModifier (x ∷ cs) (value_from 0 cs) false) (sym e) (prefix_modifier cs t))

some_none : (p : ℕ × Bool) → Some p ≡ None → ⊥
some_none p e = cc

pub modifier_of-some : (cs : List ℕ) (p : ℕ × Bool) → Some p ≡ modifier_of cs → IsModifier cs p.0 p.1
modifier_of-some [] p e = subst (λ (t : ℕ × Bool). IsModifier [] t.0 t.1) (sym (same_Some p (0, false) e)) no_modifier
modifier_of-some (c ∷ cs) p e =
    ⊎_elim
    (λ t.
    let parts = and_parts (c == 42) (nat_eq (length cs) 0) t in
    explode_here c cs p (eqb-true c 42 parts.0) (eqb-true (length cs) 0 parts.1)
    (same_Some p (0, true) (e ∙ cond-true (c == 42 && nat_eq (length cs) 0) _ _ t)))
    (λ f. ⊎_elim
    (λ t.
    let parts = and_parts (c == 58) (is_max_length cs) t in
    prefix_here c cs p (eqb-true c 58 parts.0) parts.1
    (same_Some p (value_from 0 cs, false) (e ∙ (cond-false (c == 42 && nat_eq (length cs) 0) _ _ f ∙ cond-true (c == 58 && is_max_length cs) _ _ t))))
    (λ g. absurd (some_none p (e ∙ (cond-false (c == 42 && nat_eq (length cs) 0) _ _ f ∙ cond-false (c == 58 && is_max_length cs) _ _ g))))
    (cases_Bool (c == 58 && is_max_length cs)))
    (cases_Bool (c == 42 && nat_eq (length cs) 0))

pub modifier_of-none : (cs : List ℕ) → None ≡ modifier_of cs → (n : ℕ) (explode : Bool) → IsModifier cs n explode → ⊥
modifier_of-none cs e n explode h = some_none (n, explode) (sym (e ∙ modifier_is cs n explode h))

-- ---- names before modifiers

pub no_name : (cs : List ℕ) → varchar_len cs ≡ 0 → (name after : List ℕ) → IsNamed cs name after → ⊥
no_name cs z name after h = omega (arith, z, ap varchar_len h.begins.whole, varchar_len-varname name after h.begins.is_varname)

pub long_name : (cs name after : List ℕ) → BeginsWithVarname cs name after → MAX_NAME_BYTES < length name → (other following : List ℕ)
    → IsNamed cs other following
    → ⊥
long_name cs name after h l other following k = grind (arith, common_steps)

pub bad_follower : (cs name after : List ℕ) → BeginsWithVarname cs name after → 0 < length after → begins_with_modifier after ≡ false
    → (other following : List ℕ)
    → IsNamed cs other following → ⊥
bad_follower cs name after h l b other following k =
    let same : after ≡ following = (longest_same cs name after other following h k.begins).1 in
    ⊎_elim
    (λ (nil : following ≡ []). omega (arith, l, ap length (same ∙ nil)))
    (λ (begins : begins_with_modifier following ≡ true). false≢true (sym b ∙ (ap begins_with_modifier same ∙ begins)))
    k.follows

named_same : (cs name after other following : List ℕ) → IsNamed cs name after → IsNamed cs other following → (name ≡ other) × (after ≡ following)
named_same cs name after other following h k = longest_same cs name after other following h.begins k.begins

-- ---- specs

spec_named : (cs : List ℕ) (spec : Spec) (h : IsSpec cs spec) → IsNamed cs spec.name h.after
spec_named cs spec h = grind (arith, modifier_ends, ended_varname)

spec_by_fields : (s t : Spec) → s.name ≡ t.name → s.cut ≡ t.cut → s.explode ≡ t.explode → s ≡ t
spec_by_fields s t p q r = grind (arith, common_steps)

pub spec_same : (cs : List ℕ) (s t : Spec) → IsSpec cs s → IsSpec cs t → s ≡ t
spec_same cs s t h k =
    let same = named_same cs s.name h.after t.name k.after (spec_named cs s h) (spec_named cs t k) in
    let rest = modifier_same h.after k.after s.cut t.cut s.explode t.explode same.1 h.modified k.modified in
    spec_by_fields s t same.0 rest.0 rest.1

-- a text with an error is not a spec
pub spec_no_fault : (cs : List ℕ) (spec : Spec) (k : TemplateErrorKind) (d : ℕ) → IsSpec cs spec → IsSpecFault cs k d → ⊥
spec_no_fault cs spec k d h (bad_name xs never) = never spec.name h.after (spec_named cs spec h)
spec_no_fault cs spec k d h (bad_modifier xs other following is never) =
    let same = named_same cs spec.name h.after other following (spec_named cs spec h) is in
    never spec.cut spec.explode (subst (λ (t : List ℕ). IsModifier t spec.cut spec.explode) same.1 h.modified)

pub spec_one_fault : (cs : List ℕ) (k l : TemplateErrorKind) (d e : ℕ) → IsSpecFault cs k d → IsSpecFault cs l e → (k ≡ l) × (d ≡ e)
spec_one_fault cs k l d e (bad_name xs never) (bad_name ys other) = (refl, refl)
spec_one_fault cs k l d e (bad_name xs never) (bad_modifier ys name after is other) = absurd (never name after is)
spec_one_fault cs k l d e (bad_modifier xs name after is other) (bad_name ys never) = absurd (never name after is)
spec_one_fault cs k l d e (bad_modifier xs name after is other) (bad_modifier ys next following are never) =
    (refl, ap length (named_same cs name after next following is are).0)

-- ---- lists of specs

-- further text after the rest does not change the first spec
abbrev pub spec_before : (front rest more : List ℕ) (s : Spec) → BeginsWithSpec front s rest → BeginsWithSpec (front ++ more) s (rest ++ more)
spec_before front rest more s h = record {
  piece = h.piece;
  whole = ap (λ (x : List ℕ). x ++ more) h.whole ∙ append_assoc h.piece (comma ∷ rest) more;
  lacks = h.lacks;
  is_spec = h.is_spec;
}

pub SpellsSpecs-more : (ss : List Spec) (front piece : List ℕ) (s : Spec) → SpellsSpecs front ss → Lacks comma piece → IsSpec piece s
    → SpellsSpecs (front ++ (piece ++ comma ∷ [])) (ss ++ s ∷ [])
SpellsSpecs-more [] front piece s h l is = grind (arith, common_steps)
SpellsSpecs-more (t ∷ ts) front piece s h l is =
    (h.0 ++ (piece ++ comma ∷ []), spec_before (front) (h.0) (piece ++ comma ∷ []) t h.1, SpellsSpecs-more ts h.0 piece s h.2 l is)

pub spec_moves : (cs : List ℕ) (k : TemplateErrorKind) (d at n : ℕ) → IsSpecFault cs k d → moved_place k at n ≡ at + n
spec_moves cs k d at n (bad_name xs h) = refl
spec_moves cs k d at n (bad_modifier xs name after h i) = refl

-- a piece before a comma within a text, or before one after the text
pub piece_cut : (rest : List ℕ) (end : ℕ) → end < length rest → get_or rest end 0 ≡ comma → (x : List ℕ) × (rest ++ comma ∷ [] ≡ take end rest ++ comma ∷ x)
piece_cut rest end l h =
    let back : drop end rest ≡ comma ∷ drop (end + 1) rest = drop_more rest end 0 l ∙ ap (λ (x : ℕ). x ∷ drop (end + 1) rest) h in
    let whole : rest ≡ take end rest ++ comma ∷ drop (end + 1) rest = sym (take-append-drop end rest) ∙ ap (λ (t : List ℕ). take end rest ++ t) back in
    (drop (end + 1) rest ++ comma ∷ [], ap (λ (t : List ℕ). t ++ comma ∷ []) whole ∙ append_assoc (take end rest) (comma ∷ drop (end + 1) rest) (comma ∷ []))

following : (list rest : List ℕ) (done len : ℕ) → done ≤ length list → rest ≡ drop done list → (x : List ℕ) → rest ++ comma ∷ [] ≡ take len rest ++ comma ∷ x
    → drop done (list ++ comma ∷ []) ≡ take len rest ++ comma ∷ x
following list rest done len w r x e = drop-append-le done list (comma ∷ []) w ∙ (ap (λ (t : List ℕ). t ++ comma ∷ []) (sym r) ∙ e)

-- one more piece that is a spec
pub specs_step : (list rest piece : List ℕ) (done len : ℕ) (ss : List Spec) (s : Spec) → done ≤ length list → rest ≡ drop done list → piece ≡ take len rest
    → len ≤ length rest → Lacks comma (take len rest) → ((x : List ℕ) × (rest ++ comma ∷ [] ≡ take len rest ++ comma ∷ x)) → IsSpec piece s
    → SpellsSpecs (take done (list ++ comma ∷ [])) ss → SpellsSpecs (take (done + (len + 1)) (list ++ comma ∷ [])) (ss ++ s ∷ [])
specs_step list rest piece done len ss s w r p within lacks cut is h =
    let size : length (take len rest) ≡ len = length-take-le len rest within in
    let front : take (len + 1) (take len rest ++ comma ∷ cut.0) ≡ take len rest ++ comma ∷ [] = grind (arith, size, take-append-add) in
    let all : take (done + (len + 1)) (list ++ comma ∷ []) ≡ take done (list ++ comma ∷ []) ++ (take len rest ++ comma ∷ []) =
    grind (arith, take-add, following, front) in
    subst (λ (t : List ℕ). SpellsSpecs t (ss ++ s ∷ [])) (sym all)
    (SpellsSpecs-more ss (take done (list ++ comma ∷ [])) (take len rest) s h lacks (subst (λ (t : List ℕ). IsSpec t s) p is))

-- a piece that is not a spec
pub specs_fault : (list rest piece : List ℕ) (done len : ℕ) (ss : List Spec) (e : TemplateError) → done ≤ length list → rest ≡ drop done list
    → piece ≡ take len rest → Lacks comma (take len rest) → ((x : List ℕ) × (rest ++ comma ∷ [] ≡ take len rest ++ comma ∷ x))
    → SpellsSpecs (take done (list ++ comma ∷ [])) ss → IsFault e (IsSpecFault piece) → IsFault (moved e done) (IsListFault list)
specs_fault list rest piece done len ss e w r p lacks cut h f =
    let size : length (take done (list ++ comma ∷ [])) ≡ done = length-take-le done (list ++ comma ∷ []) (omega (arith, length-append list (comma ∷ []), w)) in
    let whole : list ++ comma ∷ [] ≡ take done (list ++ comma ∷ []) ++ (take len rest ++ comma ∷ cut.0) =
    sym (take-append-drop done (list ++ comma ∷ []))
    ∙ ap (λ (t : List ℕ). take done (list ++ comma ∷ []) ++ t) (following list rest done len w r cut.0 cut.1) in
    ⊎_elim
    (λ m. inl (ap (λ (x : TemplateError). moved x done) m))
    (λ g.
    let place : moved_place e.kind e.at done ≡ length (take done (list ++ comma ∷ [])) + e.at = grind (arith, size) in
    inr (record {
      front = take done (list ++ comma ∷ []);
      specs = ss;
      piece = take len rest;
      after = cut.0;
      distance = e.at;
      whole = whole;
      spelled = h;
      lacks = lacks;
      fault = subst (λ (t : List ℕ). IsSpecFault t e.kind e.at) p g;
      place = place;
    }))
    f
