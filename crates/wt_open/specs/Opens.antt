-- A variable over distinct rows is opened, by the ranges around it. Only private contracts cite this.
use Rattle.std.specs.Prelude.{ℕ, ◌≡◌, ◌⊎◌, ◌<◌, ◌-◌, ◌^◌, Bool, true, List, map, length}
use Rattle.wt_bag.specs.Bags.{Each}
use Rattle.wt_symbol.specs.declared.head.Part.{Part}
use Rattle.wt_form.specs.declared.form.Expr.{Expr}
use Rattle.wt_form.specs.Trees.{Terms, no_terms, term_then, Ranges, FormRange, Rel, distinct_of, Conds}
use Rattle.wt_form.specs.Parts.{one_term, ranges_append, ranges_count, conds_append, conds_map, conds_up, expr_up}
use Rattle.wt_form.specs.Known.{Known}
use Rattle.wt_form.specs.Closed.{IsWithin, ExistInConds}
use Rattle.wt_form.specs.Opening.{Opening, AllDetermined}
use Rattle.wt_places.specs.Lists.{ranges_from}
use Rattle.wt_opening.specs.Opened.{CanOpen, CondsCanOpen, opened_or_same}

-- variable k is opened, which stands for a row of a form with this head and this one term
abbrev pub opening_of : ℕ → List Part → Ranges → List Expr → Opening
opening_of k head inner pieces = record { at = k; n = ranges_count inner; head = head; pieces = map (expr_up k) pieces }

-- the ranges with those of a term in the place between
abbrev pub opened_ranges : List FormRange → Ranges → List FormRange → Ranges
opened_ranges rb inner ra = ranges_append (ranges_from rb) (ranges_append inner (ranges_from ra))

-- the term where the variable is opened
abbrev pub opened_term : Opening → List FormRange → Ranges → Conds → List FormRange → Conds → List Expr → Terms
opened_term o rb inner conds ra cs ps = one_term (opened_ranges rb inner ra) (conds_append (conds_map (opened_or_same o) cs) (conds_up o.at conds)) (map (opened_or_same o) ps)

-- each expression of the term can be opened
abbrev pub TermCanOpen : Opening → Conds → List Expr → Type 0
TermCanOpen o cs ps = CondsCanOpen o cs × Each (CanOpen o) ps

-- each can, and the term is the one where the variable is opened
abbrev pub OpensBy : Opening → List FormRange → Ranges → Conds → List FormRange → Conds → List Expr → Terms → Type 0
OpensBy o rb inner conds ra cs ps us = TermCanOpen o cs ps × (us ≡ opened_term o rb inner conds ra cs ps)

-- the term is inside a nested form, or each variable of the inner one is determined
abbrev pub MayOpen : Known → Bool → Ranges → Conds → List Expr → Type 0
MayOpen K nested inner conds pieces = (nested ≡ true) ⊎ AllDetermined K inner conds pieces

-- the variable between is over the distinct rows of this one term, and is opened
abbrev pub OpensTerm : Known → Bool → Conds → List Expr → List FormRange → List Part → Ranges → Conds → List Expr → List FormRange → Terms → Type 0
OpensTerm K nested cs ps rb head inner conds pieces ra us = MayOpen K nested inner conds pieces × OpensBy (opening_of (length rb) head inner pieces) rb inner conds ra cs ps us

-- it is over the distinct rows of these terms, which are one
abbrev pub OpensTerms : Known → Bool → Conds → List Expr → List FormRange → List Part → Terms → List FormRange → Terms → Type 0
OpensTerms K nested cs ps rb head no_terms ra us = ⊥
OpensTerms K nested cs ps rb head (term_then inner conds pieces no_terms) ra us = OpensTerm K nested cs ps rb head inner conds pieces ra us
OpensTerms K nested cs ps rb head (term_then inner conds pieces (term_then rs' cs' ps' ts)) ra us = ⊥

-- it has this range
abbrev pub OpensAt : Known → Bool → Conds → List Expr → List FormRange → FormRange → List FormRange → Terms → Type 0
OpensAt K nested cs ps rb (Rel r) ra us = ⊥
OpensAt K nested cs ps rb (distinct_of h ts) ra us = OpensTerms K nested cs ps rb h ts ra us

-- where variable k is over the distinct rows of this term, the variables of both have room in 32 bits
pub record Room (k : ℕ) (cs : Conds) (ps : List Expr) (inner : Ranges) (conds : Conds) (pieces : List Expr) : Type 0 where
  pub at : k < 2 ^ 32
  pub count : ranges_count inner < 2 ^ 32
  pub outer_conds : ExistInConds (2 ^ 32 - ranges_count inner) cs
  pub outer_pieces : Each (IsWithin (2 ^ 32 - ranges_count inner)) ps
  pub inner_conds : ExistInConds (2 ^ 32 - k) conds
  pub inner_pieces : Each (IsWithin (2 ^ 32 - k)) pieces

-- the same of each term whose distinct rows a range has
abbrev pub TermsRoom : ℕ → Conds → List Expr → Terms → Type 0
TermsRoom k cs ps no_terms = Unit {0}
TermsRoom k cs ps (term_then inner conds pieces ts) = Room k cs ps inner conds pieces

abbrev pub RangeRoom : Conds → List Expr → ℕ → FormRange → Type 0
RangeRoom cs ps k (Rel r) = Unit {0}
RangeRoom cs ps k (distinct_of h ts) = TermsRoom k cs ps ts
