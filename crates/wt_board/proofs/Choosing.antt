-- Pending sets of the pairs of a lot.
use Rattle.std.proofs.Common.{◌≡◌, ℕ, zero, suc, ◌+◌, ◌<◌, ◌≤◌, inl, inr, ◌↔◌, Bool, true≢false, IsTrue, refl, sym, ◌∙◌, subst, arith, List, [], ◌∷◌, length, get_or}
use Rattle.std.specs.Prelude.{Option, Some, None, is_some, slice_get}
use Rattle.std.proofs.lemmas.Bool.{cases_eq}
use Rattle.wt_symbol.specs.Sides.{PairTree}
use Rattle.wt_constraint.specs.declared.set.AtomSet.{AtomSet}
use Rattle.wt_cores.specs.Cores.{all_atoms}
use Rattle.wt_board.specs.declared.words.Ticket.{Ticket}
use Rattle.wt_board.specs.declared.words.Entry.{Entry}
use Rattle.wt_board.specs.Lots.{LotTree}
use Rattle.wt_board.specs.Machine.{State, Pending}
use Rattle.wt_board.specs.Covering.{NextOpen}
use Rattle.wt_board.specs.Keeping.{PageTree, PageFits, lore_of, no_page, Keeps, at_work, PendingOf}
use Rattle.wt_board.proofs.Held.{pair_at, pair_below, pending_is, is_pending}

-- what is read of a list of pages
read_page : (xs : List PageTree) (k : ℕ) (x d : PageTree) → k < length xs → x ≡ get_or xs k x → get_or xs k d ≡ x
read_page [] k x d l e = absurd (let bad : ⊥ = omega (arith, l) in bad)
read_page (y ∷ ys) zero x d l e = sym e
read_page (y ∷ ys) (suc k) x d l e = read_page ys k x d (omega (arith, l)) e

module _ (lot : LotTree) (log : List Entry) (pages : List PageTree) (p : ℕ) (page : PageTree) (keeps : Keeps lot log pages) (l : p < length lot.pairs) (is : page ≡ get_or pages p page) where
  pub page_fits : (pair : PairTree) → slice_get lot.pairs p ≡ Some pair → PageFits (all_atoms pair) p log page
  page_fits pair at =
      let m = keeps.many in
      subst (PageFits (all_atoms pair) p log) (read_page pages p page no_page (omega (arith, m, l)) is) (keeps.each p pair at)

  pub page_fits_own : PageFits page.all p log page
  page_fits_own = let k = pair_at lot.pairs p l in let f = page_fits k.0 k.1 in subst (λ a. PageFits a p log page) (sym f.atoms) f

  pub pending_here : (out : List Ticket) (o : Option AtomSet) → NextOpen (lore_of p log) out p page.all o → PendingOf lot (at_work out log) p o
  pending_here out o h = let k = pair_at lot.pairs p l in by o (subst (λ a. NextOpen (lore_of p log) out p a o) (page_fits k.0 k.1).atoms h)
    where
      by : (o : Option AtomSet) → NextOpen (lore_of p log) out p (all_atoms (pair_at lot.pairs p l).0) o → PendingOf lot (at_work out log) p o
      by None h = λ s w. let k = pair_at lot.pairs p l in let q = is_pending lot out log p k.0 s k.1 w in h s q.0 q.1
      by (Some s) h = let k = pair_at lot.pairs p l in pending_is lot out log p k.0 s k.1 h.0 h.1

pub pending_told : (lot : LotTree) (st : State) (p : ℕ) (o : Option AtomSet) (b : Bool) → b ≡ is_some o → PendingOf lot st p o → (IsTrue b ↔ ((s : AtomSet) × Pending lot st p s))
pending_told lot st p None b e h = (λ yes. absurd (true≢false (sym yes ∙ e)), λ q. absurd (h q.0 q.1))
pending_told lot st p (Some s) b e h = (λ yes. (s, h), λ q. e)

pub none_found : (lot : LotTree) (st : State) (p : ℕ) (o : Option AtomSet) → ((s : AtomSet) → o ≡ Some s → ⊥) → PendingOf lot st p o → (s : AtomSet) → Pending lot st p s → ⊥
none_found lot st p None never h = h
none_found lot st p (Some s) never h = absurd (never s refl)

-- nothing is pending of the pairs below a number
abbrev pub NoneBelow : LotTree → State → ℕ → Type 0
NoneBelow lot st n = (q : ℕ) → q < n → (s : AtomSet) → Pending lot st q s → ⊥

pub none_more : (lot : LotTree) (st : State) (n : ℕ) → NoneBelow lot st n → ((s : AtomSet) → Pending lot st n s → ⊥) → NoneBelow lot st (n + 1)
none_more lot st n h here q l s w = elim (cases_eq q n) [
  | inl e ↦ here s (subst (λ m. Pending lot st m s) e w)
  | inr ne ↦ h q (omega (arith, l, ne)) s w
]

pub none_at_all : (lot : LotTree) (st : State) (n : ℕ) → length lot.pairs ≤ n → NoneBelow lot st n → (p : ℕ) (s : AtomSet) → Pending lot st p s → ⊥
none_at_all lot st n l h p s w = let b = pair_below lot.pairs p w.pair w.at in h p (omega (arith, l, b)) s w
