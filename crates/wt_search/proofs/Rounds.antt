-- A search by rounds: each round looks only at what the round before found.
use Rattle.std.proofs.Common.{ℕ, zero, suc, ◌+◌, ◌≡◌, ◌⊎◌, ◌↔◌, List, refl, sym, subst, inl, inr, arith}
use Rattle.wt_bag.specs.Choices.{Has}

module _ {X : Type 0} (Goes : X → X → Type 0) where
  -- at most k steps lead from f to g
  abbrev pub Reaches : ℕ → X → X → Type 0
  Reaches zero f g = f ≡ g
  Reaches (suc k) f g = (f ≡ g) ⊎ ((h : X) × Goes f h × Reaches k h g)

  pub at_once : (k : ℕ) (f g : X) → f ≡ g → Reaches k f g
  at_once zero f g e = e
  at_once (suc k) f g e = inl e

  -- one step more, the last; and the last step taken off
  pub one_step_more : (k : ℕ) (f h g : X) → Reaches k f h → Goes h g → Reaches (suc k) f g
  one_step_more zero f h g e s = inr (g, subst (λ z. Goes z g) (sym e) s, refl)
  one_step_more (suc k) f h g (inl e) s = inr (g, subst (λ z. Goes z g) (sym e) s, at_once (suc k) g g refl)
  one_step_more (suc k) f h g (inr r) s = inr (r.0, r.1, one_step_more k r.0 h g r.2 s)

  pub last_step : (k : ℕ) (f g : X) → Reaches (suc k) f g → Reaches k f g ⊎ ((h : X) × Reaches k f h × Goes h g)
  last_step k f g (inl e) = inl (at_once k f g e)
  last_step zero f g (inr r) = inr (f, refl, subst (Goes f) r.2 r.1)
  last_step (suc k) f g (inr r) = go (last_step k r.0 g r.2)
    where
      go : Reaches k r.0 g ⊎ ((h : X) × Reaches k r.0 h × Goes h g) → Reaches (suc k) f g ⊎ ((h : X) × Reaches (suc k) f h × Goes h g)
      go (inl p) = inl (inr (r.0, r.1, p))
      go (inr p) = inr (p.0, inr (r.0, r.1, p.1), p.2)

  pub weaker : (k : ℕ) (f g : X) → Reaches k f g → Reaches (suc k) f g
  weaker zero f g e = inl e
  weaker (suc k) f g (inl e) = inl e
  weaker (suc k) f g (inr r) = inr (r.0, r.1, weaker k r.0 g r.2)

  -- all that k rounds found, and that the elements before the last round's were looked at
  pub record Searched (k : ℕ) (f : X) (seen done : List X) : Type 0 where
    pub found : (g : X) → (Has g seen ↔ Reaches k f g)
    pub closed : (h g : X) → Has h done → Goes h g → Has g seen

  pub next_round : (k : ℕ) (f : X) (seen done fresh seen' : List X) → Searched k f seen done →
      ((h : X) → (Has h seen ↔ (Has h done ⊎ Has h fresh))) →
      ((g : X) → (Has g seen' ↔ (Has g seen ⊎ ((h : X) × Has h fresh × Goes h g)))) → Searched (suc k) f seen' seen
  next_round k f seen done fresh seen' s parts gains = record { found = λ g. (there g, back g); closed = closed }
    where
      closed : (h g : X) → Has h seen → Goes h g → Has g seen'
      closed h g m st = go ((parts h).0 m)
        where
          go : Has h done ⊎ Has h fresh → Has g seen'
          go (inl d) = (gains g).1 (inl (s.closed h g d st))
          go (inr n) = (gains g).1 (inr (h, n, st))

      there : (g : X) → Has g seen' → Reaches (suc k) f g
      there g m = go ((gains g).0 m)
        where
          go : Has g seen ⊎ ((h : X) × Has h fresh × Goes h g) → Reaches (suc k) f g
          go (inl o) = weaker k f g ((s.found g).0 o)
          go (inr r) = one_step_more k f r.0 g ((s.found r.0).0 ((parts r.0).1 (inr r.1))) r.2

      back : (g : X) → Reaches (suc k) f g → Has g seen'
      back g r = go (last_step k f g r)
        where
          go : Reaches k f g ⊎ ((h : X) × Reaches k f h × Goes h g) → Has g seen'
          go (inl p) = (gains g).1 (inl ((s.found g).1 p))
          go (inr p) = closed p.0 g ((s.found p.0).1 p.1) p.2

  -- nothing new: all rounds find the same
  pub no_more : (k : ℕ) (f : X) (seen done : List X) → Searched k f seen done → ((h : X) → Has h seen → Has h done) → Searched (suc k) f seen done
  no_more k f seen done s all = record { found = λ g. (λ m. weaker k f g ((s.found g).0 m), λ r. go g (last_step k f g r)); closed = s.closed }
    where
      go : (g : X) → Reaches k f g ⊎ ((h : X) × Reaches k f h × Goes h g) → Has g seen
      go g (inl p) = (s.found g).1 p
      go g (inr p) = s.closed p.0 g (all p.0 ((s.found p.0).1 p.1)) p.2

  -- then all further rounds find the same
  pub all_more : (n k : ℕ) (f : X) (seen done : List X) → Searched k f seen done → ((h : X) → Has h seen → Has h done) → Searched (n + k) f seen done
  all_more zero k f seen done s all = let e : k ≡ zero + k = omega arith in subst (λ m. Searched m f seen done) e s
  all_more (suc n) k f seen done s all = let e : suc (n + k) ≡ suc n + k = omega arith in subst (λ m. Searched m f seen done) e (no_more (n + k) f seen done (all_more n k f seen done s all) all)
