-- Two namespaces of identifiers are the same one, or apart.
use Rattle.std.proofs.Common.{◌≡◌, ◌⊎◌, ℕ, false, cond, refl, sym, ap, ◌∙◌, inl, inr}
use Rattle.std.specs.Prelude.{◌==◌, ◌≢◌}
use Rattle.std.proofs.lemmas.Bool.{eqb-false}
use Rattle.std.proofs.lemmas.Bool.Decides.{eqb_tells}
use Rattle.work_identifiers.specs.declared.namespace.Namespace.{Namespace}
use Rattle.work_identifiers.specs.declared.namespace.Namespace.TheVariants.{Doi, Pmid, Oclc, Pmc, Arxiv}
use Rattle.work_identifiers.specs.Uris.{registered}

abbrev number : Namespace → ℕ
number Doi = 0
number Pmid = 1
number Oclc = 2
number Pmc = 3
number Arxiv = 4

abbrev numbered : ℕ → Namespace
numbered n = cond (n == 0) Doi (cond (n == 1) Pmid (cond (n == 2) Oclc (cond (n == 3) Pmc Arxiv)))

numbered_by : (namespace : Namespace) → numbered (number namespace) ≡ namespace
numbered_by Doi = refl
numbered_by Pmid = refl
numbered_by Oclc = refl
numbered_by Pmc = refl
numbered_by Arxiv = refl

pub same_or_apart : (namespace other : Namespace) → (namespace ≡ other) ⊎ (namespace ≢ other)
same_or_apart namespace other =
    elim (eqb_tells (number namespace) (number other)) [
      | inl e ↦ inl (sym (numbered_by namespace) ∙ ap numbered e.1 ∙ numbered_by other)
      | inr e ↦ inr (λ same. e.1 (ap number same))
    ]

-- by a test that is computed
pub apart : (namespace other : Namespace) → (number namespace == number other) ≡ false → namespace ≢ other
apart namespace other e same = eqb-false (number namespace) (number other) e (ap number same)

-- only arXiv has the URIs of another one
pub own_uris : (namespace : Namespace) → registered namespace ≢ Doi → registered namespace ≡ namespace
own_uris Doi h = refl
own_uris Pmid h = refl
own_uris Oclc h = refl
own_uris Pmc h = refl
own_uris Arxiv h = absurd (h refl)
