-- Each step keeps the rule.
use Rattle.std.proofs.Common.{◌≡◌, ℕ, zero, suc, ◌+◌, ◌-◌, ◌≤◌, Bool, true, false, List, [], ◌∷◌, ◌++◌, set, sym, refl, ap, subst, arith}
use Rattle.std.specs.Prelude.{◌==◌, nat_lt}
use Rattle.std.proofs.lemmas.Bool.Decides.{nat_tests}
use mathlib.Core.Option.{some, some-ne-none, some_inj}
use lib.ListN.{get_elem?}
use Rattle.crossbeam_deque.specs.Tasks.{Pushes, Takes, Finds, Forks, Merges}
use Rattle.wt_deal.specs.declared.rule.Hand.{Hand}
use Rattle.wt_deal.specs.Dealing.{hand, one, times, total, Fits, EachFits, Dealt, AllTaken, IsOnceEach}

total_set : (f : Hand → ℕ) (views : List Hand) (port : ℕ) (v w : Hand) → get_elem? views port ≡ some v → total f (set views port w) + f v ≡ total f views + f w
total_set f [] port v w e = absurd (some-ne-none v (sym e))
total_set f (x ∷ xs) zero v w e = omega (arith, ap f (some_inj.0 e))
total_set f (x ∷ xs) (suc k) v w e = omega (arith, total_set f xs k v w e)

total_snoc : (f : Hand → ℕ) (views : List Hand) (v : Hand) → total f (views ++ v ∷ []) ≡ total f views + f v
total_snoc f [] v = omega arith
total_snoc f (x ∷ xs) v = omega (arith, total_snoc f xs v)

fits_at : (views : List Hand) (port : ℕ) (v : Hand) → EachFits views → get_elem? views port ≡ some v → Fits v
fits_at [] port v h e = absurd (some-ne-none v (sym e))
fits_at (x ∷ xs) zero v h e = subst Fits (some_inj.0 e) h.0
fits_at (x ∷ xs) (suc k) v h e = fits_at xs k v h.1 e

fits_set : (views : List Hand) (port : ℕ) (w : Hand) → EachFits views → Fits w → EachFits (set views port w)
fits_set [] port w h k = h
fits_set (x ∷ xs) zero w h k = (k, h.1)
fits_set (x ∷ xs) (suc n) w h k = (h.0, fits_set xs n w h.1 k)

fits_snoc : (views : List Hand) (w : Hand) → EachFits views → Fits w → EachFits (views ++ w ∷ [])
fits_snoc [] w h k = (k, tt)
fits_snoc (x ∷ xs) w h k = (h.0, fits_snoc xs w h.1 k)

-- what is 0 of each pass but the owner's
none_left : (f : Hand → ℕ) (views : List Hand) → ((u : Hand) → Fits u → u.boss ≡ 0 → f u ≡ 0) → EachFits views → total (λ v. v.boss) views ≡ 0 → total f views ≡ 0
none_left f [] z h e = refl
none_left f (x ∷ xs) z h e = omega (arith, z x h.0 (omega arith), none_left f xs z h.1 (omega arith))

only_boss : (f : Hand → ℕ) (views : List Hand) (port : ℕ) (v : Hand) → ((u : Hand) → Fits u → u.boss ≡ 0 → f u ≡ 0) → EachFits views → total (λ u. u.boss) views ≡ 1 → get_elem? views port ≡ some v → v.boss ≡ 1 → total f views ≡ f v
only_boss f [] port v z h one e b = absurd (some-ne-none v (sym e))
only_boss f (x ∷ xs) zero v z h one e b =
    let same = ap f (some_inj.0 e) in
    let boss = ap (λ (u : Hand). u.boss) (some_inj.0 e) in
    omega (arith, same, none_left f xs z h.1 (omega (arith, boss)))
only_boss f (x ∷ xs) (suc k) v z h one e b = omega (arith, at_most xs k v e b, z x h.0 (omega (arith, at_most xs k v e b)), only_boss f xs k v z h.1 (omega (arith, at_most xs k v e b)) e b)
  where
    at_most : (xs : List Hand) (k : ℕ) (v : Hand) → get_elem? xs k ≡ some v → v.boss ≡ 1 → 1 ≤ total (λ u. u.boss) xs
    at_most [] k v e b = absurd (some-ne-none v (sym e))
    at_most (x ∷ xs) zero v e b = omega (arith, ap (λ (u : Hand). u.boss) (some_inj.0 e))
    at_most (x ∷ xs) (suc k) v e b = omega (arith, at_most xs k v e b)

times-append : (x : ℕ) (xs ys : List ℕ) → times x (xs ++ ys) ≡ times x xs + times x ys
times-append x [] ys = omega arith
times-append x (y ∷ xs) ys = omega (arith, times-append x xs ys)

one_more : (x n : ℕ) → one (nat_lt x (n + 1)) ≡ one (nat_lt x n) + one (n == x)
one_more x n = grind (arith, nat_tests)

pub begins : Dealt [] (hand 1 0 0 0 [] ∷ [])
begins = record { one_boss = refl; away = refl; dealt = λ x. grind (arith, nat_tests); fits = (record { either = omega arith; pushed = λ e. absurd (omega arith); out = λ e. absurd (omega arith); idle = λ e. absurd (omega arith) }, tt) }

pub pushes : (port : ℕ) (v : Hand) (n : ℕ) → v.boss ≡ 1 → n ≡ v.pushed → Pushes Dealt port v (n ∷ []) (λ w. w ≡ hand v.boss v.away (v.pushed + 1) v.out v.taken)
pushes port v n boss is items views h at =
    let w : Hand = hand v.boss v.away (v.pushed + 1) v.out v.taken in
    let mine : Fits v = fits_at views port v h.fits at in (
      w,
      record {
        one_boss = omega (arith, total_set (λ u. u.boss) views port v w at, h.one_boss);
        away = omega (arith, total_set (λ u. u.away) views port v w at, total_set (λ u. u.out) views port v w at, h.away);
        dealt = λ x. omega (arith, total_set (λ u. times x u.taken) views port v w at, times-append x items (n ∷ []), h.dealt x, ap (λ k. one (nat_lt x k)) (let e : total (λ u. u.pushed) (set views port w) ≡ v.pushed + 1 = omega (arith, total_set (λ u. u.pushed) views port v w at, only_boss (λ u. u.pushed) views port v (λ u f. f.pushed) h.fits h.one_boss at boss) in e), one_more x v.pushed, ap (λ k. one (k == x)) is, ap (λ k. one (nat_lt x k)) (only_boss (λ u. u.pushed) views port v (λ u f. f.pushed) h.fits h.one_boss at boss));
        fits = fits_set views port w h.fits (record { either = mine.either; pushed = λ e. absurd (omega arith); out = λ e. absurd (omega arith); idle = λ e. absurd (omega arith) });
      },
      refl,
    )

-- one of the views counts for no more than all of them
one_of_all : (f : Hand → ℕ) (views : List Hand) (port : ℕ) (v : Hand) → get_elem? views port ≡ some v → f v ≤ total f views
one_of_all f [] port v e = absurd (some-ne-none v (sym e))
one_of_all f (x ∷ xs) zero v e = omega (arith, ap f (some_inj.0 e))
one_of_all f (x ∷ xs) (suc k) v e = omega (arith, one_of_all f xs k v e)

one_le : (b : Bool) → one b ≤ 1
one_le true = omega arith
one_le false = omega arith

pub takes : (port : ℕ) (v : Hand) → v.boss + v.away ≡ 1 → Takes Dealt port v 1 (λ xs w. (w ≡ hand v.boss v.away v.pushed v.out (v.taken ++ xs)) × IsOnceEach w.taken)
takes port v part xs items views _ _ h at =
    let w : Hand = hand v.boss v.away v.pushed v.out (v.taken ++ xs) in
    let mine : Fits v = fits_at views port v h.fits at in (
      w,
      record {
        one_boss = omega (arith, total_set (λ u. u.boss) views port v w at, h.one_boss);
        away = omega (arith, total_set (λ u. u.away) views port v w at, total_set (λ u. u.out) views port v w at, h.away);
        dealt = λ x. omega (arith, total_set (λ u. times x u.taken) views port v w at, times-append x v.taken xs, times-append x xs items, h.dealt x, ap (λ k. one (nat_lt x k)) (let e : total (λ u. u.pushed) (set views port w) ≡ total (λ u. u.pushed) views = omega (arith, total_set (λ u. u.pushed) views port v w at) in e));
        fits = fits_set views port w h.fits (record { either = mine.either; pushed = mine.pushed; out = mine.out; idle = λ b a. absurd (omega arith) });
      },
      (refl, λ x. omega (arith, times-append x v.taken xs, times-append x xs items, h.dealt x, one_of_all (λ u. times x u.taken) views port v at, one_le (nat_lt x (total (λ u. u.pushed) views)))),
    )

pub forks : (port : ℕ) (v : Hand) → v.boss ≡ 1 → Forks Dealt port v (hand v.boss v.away v.pushed (v.out + 1) v.taken) (hand 0 1 0 0 [])
forks port v boss items views h at =
    let w : Hand = hand v.boss v.away v.pushed (v.out + 1) v.taken in
    let n : Hand = hand 0 1 0 0 [] in
    let mine : Fits v = fits_at views port v h.fits at in
    let vs : List Hand = set views port w in
    record {
      one_boss = omega (arith, total_set (λ u. u.boss) views port v w at, total_snoc (λ u. u.boss) vs n, h.one_boss);
      away = omega (arith, total_set (λ u. u.away) views port v w at, total_set (λ u. u.out) views port v w at, total_snoc (λ u. u.away) vs n, total_snoc (λ u. u.out) vs n, h.away);
      dealt = λ x. omega (arith, total_set (λ u. times x u.taken) views port v w at, total_snoc (λ u. times x u.taken) vs n, h.dealt x, ap (λ k. one (nat_lt x k)) (let e : total (λ u. u.pushed) (vs ++ n ∷ []) ≡ total (λ u. u.pushed) views = omega (arith, total_set (λ u. u.pushed) views port v w at, total_snoc (λ u. u.pushed) vs n) in e));
      fits = fits_snoc vs n (fits_set views port w h.fits (record { either = mine.either; pushed = λ e. absurd (omega arith); out = λ e. absurd (omega arith); idle = λ e. absurd (omega arith) })) (record { either = omega arith; pushed = λ e. refl; out = λ e. refl; idle = λ e k. refl });
    }

pub merges : (port : ℕ) (v : Hand) (other : ℕ) (u : Hand) → v.boss ≡ 1 → u.away ≡ 1 → Merges Dealt port v other u (hand v.boss v.away v.pushed (v.out - 1) (v.taken ++ u.taken)) (hand 0 0 0 0 [])
merges port v other u boss away items views h at two at' =
    let w : Hand = hand v.boss v.away v.pushed (v.out - 1) (v.taken ++ u.taken) in
    let n : Hand = hand 0 0 0 0 [] in
    let mine : Fits v = fits_at views port v h.fits at in
    let vs : List Hand = set views port w in
    let wfits : Fits w = record { either = mine.either; pushed = λ e. absurd (omega arith); out = λ e. absurd (omega arith); idle = λ e. absurd (omega arith) } in
    let vfits : EachFits vs = fits_set views port w h.fits wfits in
    let theirs : Fits u = fits_at vs other u vfits at' in
    let u_boss : u.boss ≡ 0 = omega (arith, theirs.either, away) in
    let v_away : v.away ≡ 0 = omega (arith, mine.either, boss) in
    let some_out : 1 ≤ v.out = omega (arith, h.away, only_boss (λ x. x.out) views port v (λ x f. f.out) h.fits h.one_boss at boss, total_set (λ x. x.away) views port v w at, total_set (λ x. x.away) vs other u n at') in
    record {
      one_boss = omega (arith, total_set (λ x. x.boss) views port v w at, total_set (λ x. x.boss) vs other u n at', h.one_boss, u_boss);
      away = omega (arith, total_set (λ x. x.away) views port v w at, total_set (λ x. x.out) views port v w at, total_set (λ x. x.away) vs other u n at', total_set (λ x. x.out) vs other u n at', h.away, theirs.out u_boss, some_out);
      dealt = λ x. omega (arith, total_set (λ y. times x y.taken) views port v w at, total_set (λ y. times x y.taken) vs other u n at', times-append x v.taken u.taken, h.dealt x, ap (λ k. one (nat_lt x k)) (let e : total (λ y. y.pushed) (set vs other n) ≡ total (λ y. y.pushed) views = omega (arith, total_set (λ y. y.pushed) views port v w at, total_set (λ y. y.pushed) vs other u n at', theirs.pushed u_boss) in e));
      fits = fits_set vs other n vfits (record { either = omega arith; pushed = λ e. refl; out = λ e. refl; idle = λ e k. refl });
    }

-- at a moment when the deque is empty
idle_left : (x : ℕ) (views : List Hand) → EachFits views → total (λ u. u.boss) views ≡ 0 → total (λ u. u.away) views ≡ 0 → total (λ u. times x u.taken) views ≡ 0
idle_left x [] h b a = refl
idle_left x (y ∷ ys) h b a = omega (arith, ap (λ l. times x l) (h.0.idle (omega arith) (omega arith)), idle_left x ys h.1 (omega arith) (omega arith))

boss_there : (xs : List Hand) (k : ℕ) (v : Hand) → get_elem? xs k ≡ some v → v.boss ≡ 1 → 1 ≤ total (λ u. u.boss) xs
boss_there [] k v e b = absurd (some-ne-none v (sym e))
boss_there (x ∷ xs) zero v e b = omega (arith, ap (λ (u : Hand). u.boss) (some_inj.0 e))
boss_there (x ∷ xs) (suc k) v e b = omega (arith, boss_there xs k v e b)

none_away : (x : ℕ) (views : List Hand) (port : ℕ) (v : Hand) → EachFits views → total (λ u. u.boss) views ≡ 1 → total (λ u. u.away) views ≡ 0 → get_elem? views port ≡ some v → v.boss ≡ 1 → total (λ u. times x u.taken) views ≡ times x v.taken
none_away x [] port v h b a at boss = absurd (some-ne-none v (sym at))
none_away x (y ∷ ys) zero v h b a at boss = omega (arith, ap (λ (u : Hand). times x u.taken) (some_inj.0 at), idle_left x ys h.1 (omega (arith, ap (λ (u : Hand). u.boss) (some_inj.0 at))) (omega arith))
none_away x (y ∷ ys) (suc k) v h b a at boss =
    let there = boss_there ys k v at boss in
    omega (arith, ap (λ l. times x l) (h.0.idle (omega (arith, there)) (omega arith)), none_away x ys k v h.1 (omega (arith, there)) (omega arith) at boss)

pub finds : (port : ℕ) (v : Hand) → Finds Dealt port v (AllTaken v)
finds port v views h at boss quiet x =
    let out = only_boss (λ u. u.out) views port v (λ u f. f.out) h.fits h.one_boss at boss in
    let pushed = only_boss (λ u. u.pushed) views port v (λ u f. f.pushed) h.fits h.one_boss at boss in
    omega (arith, none_away x views port v h.fits h.one_boss (omega (arith, h.away, out)) at boss, h.dealt x, ap (λ k. one (nat_lt x k)) pushed)
