-- A row that is raised, one register after another.
use Rattle.std.proofs.Common.{◌≡◌, ◌≢◌, ℕ, ◌+◌, ◌<◌, ◌≤◌, List, length, get_or, set, Bool, true, false, sym, ap, ◌∙◌, subst, arith, below_more}
use Rattle.std.proofs.Common.{get_or-set_other, get_or-set_same}
use Rattle.machine_model.specs.declared.kind.Kind.{Kind}
use Rattle.machine_model.specs.declared.kind.Kind.TheVariants.{Any}
use Rattle.machine_model.specs.Kinds.{kind_le, kind_join}
use Rattle.verifier.specs.Private.Walks.{rises, row_rises, Rises}
use Rattle.verifier.proofs.KindRises.{join_below, join_rises, row_rises_set}

module _ (olds others : List Kind) where
  -- the first r kinds are joined, and the others are unchanged
  pub record Raised (ks : List Kind) (r : ℕ) (rose : Bool) : Type 0 where
    pub joined : (q : ℕ) → q < r → get_or ks q Any ≡ kind_join (get_or olds q Any) (get_or others q Any)
    pub rest : (q : ℕ) → r ≤ q → get_or ks q Any ≡ get_or olds q Any
    pub rises : Rises row_rises rose olds ks

  not_more : (ks : List Kind) (rose : Bool) → Rises row_rises rose olds ks → row_rises ks ≤ row_rises olds
  not_more ks true h = omega (arith, h)
  not_more ks false h = omega (arith, ap row_rises h)

  pub raise_up : (ks new : List Kind) (r : ℕ) (k : Kind) (rose rose' : Bool) → Raised ks r rose → r < length ks
      → kind_le (get_or others r Any) (get_or ks r Any) ≡ false → k ≡ kind_join (get_or ks r Any) (get_or others r Any) → new ≡ set ks r k → rose' ≡ true
      → Raised new (r + 1) rose'
  raise_up ks new r k rose rose' h lt up is e t =
      subst (λ x. Raised x (r + 1) rose') (sym e) (subst (Raised (set ks r k) (r + 1)) (sym t) (record {
        joined = below_more _ _ (λ q less. let ne : q ≢ r = omega arith in rw get_or-set_other (h.joined q less))
            (rw get_or-set_same (is ∙ ap (λ m. kind_join m (get_or others r Any)) (h.rest r (omega arith))));
        rest = λ q le. let ne : q ≢ r = omega arith in rw get_or-set_other (h.rest q (omega arith));
        rises = omega (arith, row_rises_set ks r k lt, ap rises is, join_rises (get_or ks r Any) (get_or others r Any) up, not_more ks rose h.rises);
      }))

  pub raise_keep : (ks new : List Kind) (r : ℕ) (rose rose' : Bool) → Raised ks r rose → kind_le (get_or others r Any) (get_or ks r Any) ≡ true → new ≡ ks
      → rose' ≡ rose → Raised new (r + 1) rose'
  raise_keep ks new r rose rose' h low e t =
      subst (λ x. Raised x (r + 1) rose') (sym e) (subst (Raised ks (r + 1)) (sym t) (record {
        joined = below_more _ _ h.joined (sym (join_below (get_or ks r Any) (get_or others r Any) low)
            ∙ ap (λ m. kind_join m (get_or others r Any)) (h.rest r (omega arith)));
        rest = λ q le. h.rest q (omega arith);
        rises = h.rises;
      }))
