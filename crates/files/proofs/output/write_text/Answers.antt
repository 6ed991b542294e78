use Rattle.std.proofs.Common.{◌≡◌, ℕ, ◌-◌, List, [], ◌++◌, rules, length, take, drop, sym, ap, ◌∙◌, subst, append_assoc, take-append-drop, drop_of_length-le}
use Rattle.std.proofs.lemmas.List.{append-nil, take_rest}
use Rattle.std.specs.Io.KnownBytes.{Appends}
use Rattle.std.proofs.KnownBytes.{Appends-kept, Appends-trans}
use Rattle.files.proofs.output.write_text.Goals as goal
use Rattle.files.proofs.output.write_text.Goals.{in-Ok, in-Err}

-- what a write takes goes from the rest to what was written
moved : (whole done rest : List ℕ) (n : ℕ) → whole ≡ done ++ rest → whole ≡ (done ++ take n rest) ++ take (length rest - n) (drop n rest)
moved whole done rest n e =
    e ∙ ap (λ l. done ++ l) (sym (take-append-drop n rest)) ∙ sym (append_assoc done (take n rest) (drop n rest))
    ∙ ap (λ l. (done ++ take n rest) ++ l) (sym (take_rest rest n))

pub loop-preserved : goal.loop-preserved
loop-preserved g c =
    let (done, in_order, written) = c.loop.invariant in
    let rest = c.loop.rest.now in
    elim c.match-write.branch [
      | in-Ok w ↦
          let n = w.in-Ok.n in (
            done ++ take n rest,
            moved _ done rest n in_order ∙ ap (λ l. (done ++ take n rest) ++ l.now) (sym w.rest-is),
            Appends-trans _ _ _ _ _ written w.in-Ok.ensures.bytes,
          )
      | in-Err w ↦ (done, in_order ∙ ap (λ l. done ++ l.now) (sym w.rest-is), Appends-kept _ _ _ _ written w.in-Err.ensures.bytes)
    ]

-- nothing is left
pub returns-then-is_empty-clause-ok : goal.returns-then-is_empty-clause-ok
returns-then-is_empty-clause-ok g c =
    let (done, in_order, written) = c.loop.invariant in
    let rest = c.loop.rest.now in
    let empty : rest ≡ [] = drop_of_length-le rest {i = 0} (search rules) in
    subst (Appends _ _) (sym (in_order ∙ ap (λ l. done ++ l) empty ∙ append-nil done)) written
