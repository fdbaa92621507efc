-- Open sets of nodes.
use Rattle.std.proofs.Common.{◌≡◌, ◌≢◌, ℕ, zero, suc, ◌+◌, ◌<◌, ◌⊎◌, inl, inr, ◌↔◌, true, false, true≢false, refl, sym, ◌∙◌, subst, arith, List, [], ◌∷◌, length, take, insert, get_or}
use Rattle.std.specs.Prelude.{Option, Some, None, is_some, slice_set, MatchOption, IfSome}
use Rattle.wt_constraint.specs.declared.set.AtomSet.{AtomSet}
use Rattle.wt_constraint.specs.Sets.{HasAtom}
use Rattle.wt_cores.specs.Cores.{Within}
use Rattle.wt_cores.proofs.Bits.{within_trans, same_atoms}
use Rattle.wt_board.specs.declared.words.Ticket.{Ticket}
use Rattle.wt_board.specs.declared.nodes.Node.{Node}
use Rattle.wt_board.specs.Machine.{is_out}
use Rattle.wt_board.specs.Covering.{Lore, knows, LiesIn, IsCovered, EachWithin, Covers, IsOpen, OpenIn, OpenAmong, NextOpen, turns, turns_left, no_node}
use Rattle.wt_board.specs.declared.page.Visit.{Visit}
use Rattle.wt_board.specs.declared.page.Visit.TheVariants.{Stays, Found}
use Rattle.wt_board.specs.Keeping.{Moves}
use Rattle.wt_board.proofs.Covered.{parted, split_covers, split_less, turns_less, within_at, inserted_within, put_within}

-- the halves of a node, with an atom and without it
pub record AreHalves (n more less : Node) (i : ℕ) : Type 0 where
  pub with : (j : ℕ) → HasAtom more.must j ↔ (HasAtom n.must j ⊎ (j ≡ i))
  pub same : more.may ≡ n.may
  pub same' : less.must ≡ n.must
  pub without : (j : ℕ) → HasAtom less.may j ↔ (HasAtom n.may j × (j ≢ i))

more_lies : (n more less : Node) (i : ℕ) (s : AtomSet) → AreHalves n more less i → LiesIn more s → LiesIn n s
more_lies n more less i s h l = record { lower = λ j m. l.lower j ((h.with j).1 (inl m)); upper = λ j m. subst (λ (x : AtomSet). HasAtom x j) h.same (l.upper j m) }

less_lies : (n more less : Node) (i : ℕ) (s : AtomSet) → AreHalves n more less i → LiesIn less s → LiesIn n s
less_lies n more less i s h l = record { lower = λ j m. l.lower j (subst (λ (x : AtomSet). HasAtom x j) (sym h.same') m); upper = λ j m. ((h.without j).0 (l.upper j m)).0 }

pub more_within : (n more less : Node) (i : ℕ) → AreHalves n more less i → HasAtom n.may i → Within n.must n.may → Within more.must more.may
more_within n more less i h there w j m = subst (λ (x : AtomSet). HasAtom x j) (sym h.same) (elim ((h.with j).0 m) [ inl k ↦ w j k | inr e ↦ subst (HasAtom n.may) (sym e) there ])

pub less_within : (n more less : Node) (i : ℕ) → AreHalves n more less i → (HasAtom n.must i → ⊥) → Within n.must n.may → Within less.must less.may
less_within n more less i h none w j m = let k : HasAtom n.must j = subst (λ (x : AtomSet). HasAtom x j) h.same' m in (h.without j).1 (w j k, λ e. none (subst (HasAtom n.must) e k))

pub less_smaller : (n more less : Node) (i : ℕ) → AreHalves n more less i → Within less.may n.may
less_smaller n more less i h j m = ((h.without j).0 m).0

-- what is read of a list
pub read_is : (xs : List Node) (k : ℕ) (n d : Node) → k < length xs → n ≡ get_or xs k n → get_or xs k d ≡ n
read_is [] k n d l e = absurd (let bad : ⊥ = omega (arith, l) in bad)
read_is (x ∷ xs) zero n d l e = sym e
read_is (x ∷ xs) (suc k) n d l e = read_is xs k n d (omega (arith, l)) e

-- a node and its halves
module _ (xs : List Node) (k : ℕ) (n more less : Node) (i : ℕ) (l : k < length xs) (is : n ≡ get_or xs k n) (halves : AreHalves n more less i) where
  pub split_covered : (s : AtomSet) → IsCovered xs s → IsCovered (slice_set (insert xs (k + 1) more) k less) s
  split_covered s h =
      split_covers xs k s more less l (λ q. parted n more less i s halves.with halves.same halves.same' halves.without (subst (λ x. LiesIn x s) (read_is xs k n no_node l is) q)) h

  module _ (there : HasAtom (get_or xs k no_node).may i) (none : HasAtom (get_or xs k no_node).must i → ⊥) where
    may_there : HasAtom n.may i
    may_there = subst (λ (x : Node). HasAtom x.may i) (read_is xs k n no_node l is) there

    must_none : HasAtom n.must i → ⊥
    must_none = subst (λ (x : Node). HasAtom x.must i → ⊥) (read_is xs k n no_node l is) none

    pub split_within : (all : AtomSet) → EachWithin all xs → EachWithin all (slice_set (insert xs (k + 1) more) k less)
    split_within all h =
        let at : Within n.must n.may × Within n.may all = subst (λ (x : Node). Within x.must x.may × Within x.may all) (read_is xs k n no_node l is) (within_at all xs k no_node l h) in
        let wider : Within more.may all = λ j m. at.1 j (subst (λ (x : AtomSet). HasAtom x j) halves.same m) in
        put_within all (insert xs (k + 1) more) k less (less_within n more less i halves must_none at.0) (within_trans less.may n.may all (less_smaller n more less i halves) at.1)
        (inserted_within all xs (k + 1) more (more_within n more less i halves may_there at.0) wider h)

    pub split_fewer : i < 64 → turns_left (slice_set (insert xs (k + 1) more) k less) < turns_left xs
    split_fewer below = split_less xs k n more less l (read_is xs k n no_node l is) (turns_less n more less i below may_there must_none halves.with halves.same halves.same' halves.without)

pub halves_turns : (n more less : Node) (i : ℕ) → AreHalves n more less i → i < 64 → HasAtom n.may i → (HasAtom n.must i → ⊥) → turns more + turns less < turns n
halves_turns n more less i h below there none = turns_less n more less i below there none h.with h.same h.same' h.without

module _ (k : Lore) (out : List Ticket) (p : ℕ) where
  pub known_none : (n : Node) → ((s : AtomSet) → LiesIn n s → knows k s ≡ true) → OpenIn k out p n None
  known_none n h s l o = true≢false (sym (h s l) ∙ o.unknown)

  pub halves_some : (n more less : Node) (i : ℕ) (o : Option AtomSet) → AreHalves n more less i → is_some o ≡ true → OpenIn k out p more o → OpenIn k out p n o
  halves_some n more less i None h e f = absurd (true≢false (sym e))
  halves_some n more less i (Some u) h e f = (more_lies n more less i u h f.0, f.1)

  pub halves_open : (n more less : Node) (i : ℕ) (o q : Option AtomSet) → AreHalves n more less i → is_some o ≡ false → OpenIn k out p more o → OpenIn k out p less q → OpenIn k out p n q
  halves_open n more less i (Some u) q h e f g = absurd (true≢false e)
  halves_open n more less i None (Some u) h e f g = (less_lies n more less i u h g.0, g.1)
  halves_open n more less i None None h e f g = λ s l o. elim (parted n more less i s h.with h.same h.same' h.without l) [ inl a ↦ f s a o | inr b ↦ g s b o ]

  pub must_open : (n : Node) → Within n.must n.may → knows k n.must ≡ false → is_out out p n.must ≡ false → OpenIn k out p n (Some n.must)
  must_open n w e f = (record { lower = λ j h. h; upper = w }, record { unknown = e; not_out = f })

  pub must_out : (n : Node) → Within n.may n.must → is_out out p n.must ≡ true → OpenIn k out p n None
  must_out n w e s l o =
      let same : s ≡ n.must = same_atoms s n.must (within_trans s n.may n.must l.upper w) l.lower in
      true≢false (sym (subst (λ x. is_out out p x ≡ true) (sym same) e) ∙ o.not_out)

  -- ---- among nodes

  pub among_none : (xs : List Node) (at : ℕ) (d : Node) (o : Option AtomSet) → at < length xs → is_some o ≡ false → OpenIn k out p (get_or xs at d) o → OpenAmong k out p (take at xs) None → OpenAmong k out p (take (at + 1) xs) None
  among_none [] at d o l e f h = absurd (let bad : ⊥ = omega (arith, l) in bad)
  among_none (x ∷ xs) at d (Some u) l e f h = absurd (true≢false e)
  among_none (x ∷ xs) zero d None l e f h = λ s c o. elim c [ inl a ↦ f s a o | inr b ↦ b ]
  among_none (x ∷ xs) (suc at) d None l e f h =
      let again = among_none xs at d None (omega (arith, l)) refl f (λ s c o. h s (inr c) o) in
      let same : suc at + 1 ≡ suc (at + 1) = omega arith in
      subst (λ m. OpenAmong k out p (take m (x ∷ xs)) None) (sym same) (λ s c o. elim c [ inl a ↦ h s (inl a) o | inr b ↦ again s b o ])

  covered_at : (xs : List Node) (at : ℕ) (d : Node) (s : AtomSet) → at < length xs → LiesIn (get_or xs at d) s → IsCovered xs s
  covered_at [] at d s l h = absurd (let bad : ⊥ = omega (arith, l) in bad)
  covered_at (x ∷ xs) zero d s l h = inl h
  covered_at (x ∷ xs) (suc at) d s l h = inr (covered_at xs at d s (omega (arith, l)) h)

  pub among_some : (xs : List Node) (at : ℕ) (d : Node) (o : Option AtomSet) → at < length xs → is_some o ≡ true → OpenIn k out p (get_or xs at d) o → OpenAmong k out p xs o
  among_some xs at d None l e f = absurd (true≢false (sym e))
  among_some xs at d (Some u) l e f = (covered_at xs at d u l f.0, f.1)

  covered_within : (all : AtomSet) (xs : List Node) (s : AtomSet) → EachWithin all xs → IsCovered xs s → Within s all
  covered_within all [] s h c = absurd c
  covered_within all (x ∷ xs) s h (inl l) = within_trans s x.may all l.upper h.1
  covered_within all (x ∷ xs) s h (inr c) = covered_within all xs s h.2 c

  pub next_among : (all : AtomSet) (xs : List Node) (o : Option AtomSet) → Covers k all xs → EachWithin all xs → OpenAmong k out p xs o → NextOpen k out p all o
  next_among all xs None c w h = λ s within o. h s (c s within o.unknown) o
  next_among all xs (Some u) c w h = (covered_within all xs u w h.0, h.1)

  -- ---- what a visit tells

  pub visit_told : (all : AtomSet) (nodes : List Node) (set : AtomSet) (found : Option AtomSet) (v : Visit) → MatchOption found (v ≡ Stays) (λ s. v ≡ Found s) → IfSome found (λ low. Within low set × IsOpen k out p low) → Within set all
      → Moves k out p all nodes nodes v
  visit_told all nodes set None v e h w = subst (Moves k out p all nodes nodes) (sym e) refl
  visit_told all nodes set (Some s) v e h w = subst (Moves k out p all nodes nodes) (sym e) (within_trans s set all h.0 w, h.1)
