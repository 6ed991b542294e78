-- The bytes and members that a row hides, name by name of the row.
use Rattle.std.proofs.Common.{◌≡◌, ℕ, ◌+◌, Bool, true, false, [], ◌∷◌, Some, None, is_some, bytes_eq, refl, sym, ap, ◌∙◌, arith}
use Rattle.std.specs.Prelude.{sum_by}
use Rattle.std.proofs.lemmas.Grind.{common_steps}
use Rattle.std.proofs.lemmas.List.Sums.{sum_by-cons}
use Rattle.std.proofs.lemmas.Slice.Eq.{bytes_eq-Decides}
use Rattle.environment_model.specs.Environment.{Environment, Entry, Meaning, look_up, is_there}
use Rattle.environment_model.proofs.Environments.{look_up-empty, look_up-same, look_up-other}
use Rattle.target_vars.specs.EnvValue.{EachNameOnce}
use Rattle.row_laws.specs.Shadowing.{found_in, hidden}
use Rattle.environment_model.proofs.NameTests.{undefined}

module _ (f : Meaning → ℕ) where
  abbrev weigh : Entry → ℕ
  weigh e = f e.meaning

  nothing_hidden : (env : Environment) → sum_by weigh (hidden [] env) ≡ 0
  nothing_hidden [] = refl
  nothing_hidden (x ∷ env) =
      let no : is_there [] x.name ≡ false = ap is_some (look_up-empty x.name) in
      let rest : hidden [] (x ∷ env) ≡ hidden [] env = rw no refl in
      ap (sum_by weigh) rest ∙ nothing_hidden env

  -- one more entry in the row
  one_name : (e : Entry) (row env : Environment) → is_there row e.name ≡ false → EachNameOnce env
      → sum_by weigh (hidden (e ∷ row) env) ≡ found_in f (look_up env e.name) + sum_by weigh (hidden row env)
  one_name e row [] new once = ap (λ o. found_in f o + 0) (sym (look_up-empty e.name))
  one_name e row (x ∷ env) new once = by_name (bytes_eq e.name x.name) refl (one_name e row env new once.1)
    where
      by_name : (b : Bool) → bytes_eq e.name x.name ≡ b
          → sum_by weigh (hidden (e ∷ row) env) ≡ found_in f (look_up env e.name) + sum_by weigh (hidden row env)
          → sum_by weigh (hidden (e ∷ row) (x ∷ env)) ≡ found_in f (look_up (x ∷ env) e.name) + sum_by weigh (hidden row (x ∷ env))
      by_name true same after =
          let is : e.name ≡ x.name = (bytes_eq-Decides e.name x.name).0 same in
          let in_both : is_there (e ∷ row) x.name ≡ true = ap is_some (look_up-same e row x.name same) in
          let not_in_row : is_there row x.name ≡ false = ap (is_there row) (sym is) ∙ new in
          let none : look_up env e.name ≡ None = undefined (look_up env e.name) (ap (is_there env) is ∙ once.0) in
          let here : look_up (x ∷ env) e.name ≡ Some x.meaning = look_up-same x env e.name ((bytes_eq-Decides x.name e.name).1 (sym is)) in
          let left : hidden (e ∷ row) (x ∷ env) ≡ x ∷ hidden (e ∷ row) env = rw in_both refl in
          let right : hidden row (x ∷ env) ≡ hidden row env = rw not_in_row refl in
          let a = ap (sum_by weigh) left ∙ sum_by-cons weigh x (hidden (e ∷ row) env) in
          let b = ap (sum_by weigh) right in
          let c = ap (found_in f) here in
          let d = ap (found_in f) none in
          omega (arith, a, b, c, d, after)
      by_name false differs after =
          let back : bytes_eq x.name e.name ≡ false = differs_back (bytes_eq x.name e.name) refl in
          let same_found : look_up (x ∷ env) e.name ≡ look_up env e.name = look_up-other x env e.name back in
          let same_test : is_there (e ∷ row) x.name ≡ is_there row x.name = ap is_some (look_up-other e row x.name differs) in
          ap (λ n. n) (by_row (is_there row x.name) refl same_test after (ap (found_in f) same_found))
        where
          differs_back : (r : Bool) → bytes_eq x.name e.name ≡ r → r ≡ false
          differs_back true is =
              let yes : bytes_eq e.name x.name ≡ true = (bytes_eq-Decides e.name x.name).1 (sym ((bytes_eq-Decides x.name e.name).0 is)) in cc
          differs_back false is = refl

          by_row : (r : Bool) → is_there row x.name ≡ r → is_there (e ∷ row) x.name ≡ is_there row x.name
              → sum_by weigh (hidden (e ∷ row) env) ≡ found_in f (look_up env e.name) + sum_by weigh (hidden row env)
              → found_in f (look_up (x ∷ env) e.name) ≡ found_in f (look_up env e.name)
              → sum_by weigh (hidden (e ∷ row) (x ∷ env)) ≡ found_in f (look_up (x ∷ env) e.name) + sum_by weigh (hidden row (x ∷ env))
          by_row true there test rest found = grind (arith, common_steps)
          by_row false absent test rest found = grind (arith, common_steps)

  pub hidden_sum : (row env : Environment) → EachNameOnce row → EachNameOnce env
      → sum_by weigh (hidden row env) ≡ sum_by (λ (e : Entry). found_in f (look_up env e.name)) row
  hidden_sum [] env row_once once = nothing_hidden env
  hidden_sum (e ∷ row) env row_once once =
      let front = one_name e row env row_once.0 once in
      let after = hidden_sum row env row_once.1 once in
      let all = sum_by-cons (λ (x : Entry). found_in f (look_up env x.name)) e row in
      omega (arith, front, after, all)
