-- Two requests with the same values under each key have the same sums.
use Rattle.std.proofs.Common.{◌≡◌, ℕ, Bool, true, false, List, [], ◌∷◌, None, is_some, bytes_eq, refl, sym, ap, ◌∙◌, arith}
use Rattle.std.specs.Prelude.{sum_by}
use Rattle.std.proofs.lemmas.List.Sums.{sum_by-cons}
use Rattle.text_model.specs.Texts.{Text}
use Rattle.environment_model.specs.Environment.{Environment, Entry, Meaning, look_up, is_there}
use Rattle.environment_model.specs.Lists.{is_list}
use Rattle.environment_model.proofs.Environments.{look_up-same, look_up-other}
use Rattle.target_vars.specs.EnvValue.{EachNameOnce}
use Rattle.kev_read.specs.Pairs.{KeyValue, all_of}
use Rattle.row_laws.specs.Shadowing.{requested, found_in, hidden}
use Rattle.row_laws.proofs.RequestedEntries.{grown, look_up-requested}
use Rattle.row_laws.proofs.HiddenSums.{hidden_sum}
use Rattle.environment_model.proofs.NameTests.{itself}
use Rattle.row_laws.proofs.NamesOnce.{requested_once}

-- a row that has all names hides all entries
all_hidden : (row env : Environment) → ((name : Text) → is_there env name ≡ true → is_there row name ≡ true) → hidden row env ≡ env
all_hidden row [] every = refl
all_hidden row (e ∷ env) every =
    let own : is_there (e ∷ env) e.name ≡ true = ap is_some (look_up-same e env e.name (itself e.name)) in
    let here : is_there row e.name ≡ true = every e.name own in
    let rest = all_hidden row env (λ name there. every name (later name (bytes_eq e.name name) refl there)) in
    rw here (ap (λ es. e ∷ es) rest)
  where
    later : (name : Text) (b : Bool) → bytes_eq e.name name ≡ b → is_there env name ≡ true → is_there (e ∷ env) name ≡ true
    later name true same there = ap is_some (look_up-same e env name same)
    later name false differs there = ap is_some (look_up-other e env name differs) ∙ there

sums_agree : (f g : Entry → ℕ) → ((e : Entry) → f e ≡ g e) → (row : Environment) → sum_by f row ≡ sum_by g row
sums_agree f g agree [] = refl
sums_agree f g agree (e ∷ row) = omega (arith, agree e, sums_agree f g agree row, sum_by-cons f e row, sum_by-cons g e row)

same_sum : (f : Meaning → ℕ) (row env : Environment) → EachNameOnce row → EachNameOnce env → ((name : Text) → look_up row name ≡ look_up env name)
    → sum_by (λ (e : Entry). f e.meaning) row ≡ sum_by (λ (e : Entry). f e.meaning) env
same_sum f row env row_once once same =
    let weigh : Entry → ℕ = λ e. f e.meaning in
    ap (sum_by weigh) (sym (all_hidden row row (λ name there. there)))
    ∙ hidden_sum f row row row_once row_once
    ∙ sums_agree (λ e. found_in f (look_up row e.name)) (λ e. found_in f (look_up env e.name)) (λ e. ap (found_in f) (same e.name)) row
    ∙ sym (hidden_sum f row env row_once once)
    ∙ ap (sum_by weigh) (all_hidden row env (λ name there. ap is_some (same name) ∙ there))

pub same_values : (f : Meaning → ℕ) (lists : List Text) (pairs others : List KeyValue) → ((key : Text) → all_of pairs key ≡ all_of others key)
    → sum_by (λ (e : Entry). f e.meaning) (requested lists pairs) ≡ sum_by (λ (e : Entry). f e.meaning) (requested lists others)
same_values f lists pairs others same =
    same_sum f (requested lists pairs) (requested lists others) (requested_once lists pairs) (requested_once lists others)
    (λ key. look_up-requested lists pairs key ∙ ap (λ vs. grown vs (is_list lists key) None) (same key) ∙ sym (look_up-requested lists others key))
