-- Steps between forms: what may stand in the place of one term or of two, and where a term may be.
use Rattle.std.specs.Prelude.{◌≡◌, Bool, true, false, List}
use Rattle.wt_symbol.specs.declared.head.Part.{Part}
use Rattle.wt_form.specs.declared.form.Expr.{Expr}
use Rattle.wt_form.specs.Trees.{Terms, term_then, Ranges, range_then, FormRange, distinct_of, Conds, cond_then, Cond, is_in, not_in, Form}
use Rattle.wt_form.specs.Parts.{one_term, terms_append}
use Rattle.wt_form.specs.Known.{Known}
use Rattle.wt_form.specs.Places.{others}
use Rattle.wt_form.specs.Drops.{Repeated, SelfJoin, InTrue, NotInFalse, NullCompared, NotInOfNull}
use Rattle.wt_form.specs.Joining.{JoinToIn, Merged, Rewritten}
use Rattle.wt_form.specs.Opening.{Opened}
use Rattle.wt_form.specs.TwoTerms.{SplitByIn, Twins}

-- what may stand in the place of one term: the table's rows
pub data Row (K : Known) (nested : Bool) (rs : Ranges) (cs : Conds) (ps : List Expr) (us : Terms) : Type 0 where
  by_repeated : Repeated K rs cs ps us → Row K nested rs cs ps us
  by_self_join : SelfJoin K rs cs ps us → Row K nested rs cs ps us
  by_in_true : InTrue K rs cs ps us → Row K nested rs cs ps us
  by_join_to_in : JoinToIn K nested rs cs ps us → Row K nested rs cs ps us
  by_merged : Merged K rs cs ps us → Row K nested rs cs ps us
  by_not_in_false : NotInFalse K rs cs ps us → Row K nested rs cs ps us
  by_null_compared : NullCompared rs cs ps us → Row K nested rs cs ps us
  by_not_in_of_null : NotInOfNull rs cs ps us → Row K nested rs cs ps us
  by_opened : Opened K nested rs cs ps us → Row K nested rs cs ps us
  by_rewritten : Rewritten K rs cs ps us → Row K nested rs cs ps us

-- what may stand in the place of an earlier term, a later one being taken away: the first three are the
-- earlier term, the next three the later one, and the last is one term
pub data PairRow (K : Known) (nested : Bool) (rs : Ranges) (cs : Conds) (ps : List Expr) (rs' : Ranges) (cs' : Conds) (ps' : List Expr) : Terms → Type 0 where
  in_first : (s : SplitByIn K rs cs ps rs' cs' ps') → PairRow K nested rs cs ps rs' cs' ps' (one_term rs (others s.place) ps)
  in_second : (s : SplitByIn K rs' cs' ps' rs cs ps) → PairRow K nested rs cs ps rs' cs' ps' (one_term rs' (others s.place) ps')
  twin : Twins K nested rs cs ps rs' cs' ps' → PairRow K nested rs cs ps rs' cs' ps' (one_term rs cs ps)

-- what may stand in the place of one term; the first argument says whether the term stands inside an
-- In, a NotIn or a Distinct, where it only counts which rows occur
abbrev pub Table : Type 1
Table = Bool → Ranges → Conds → List Expr → Terms → Type 0

-- what may stand in the place of an earlier and a later term
abbrev pub PairTable : Type 1
PairTable = Bool → Ranges → Conds → List Expr → Ranges → Conds → List Expr → Terms → Type 0

mutual
  -- some terms become others: one of them by a row of the table, or inside a nested form
  pub data TermsStep (table : Table) (pairs : PairTable) : Bool → Terms → Terms → Type 0 where
    at_term : {nested : Bool} {rs : Ranges} {cs : Conds} {ps : List Expr} {us ts : Terms} → table nested rs cs ps us → TermsStep table pairs nested (term_then rs cs ps ts) (terms_append us ts)
    at_two : {nested : Bool} {rs : Ranges} {cs : Conds} {ps : List Expr} (rs' : Ranges) (cs' : Conds) (ps' : List Expr) (between after us : Terms) → pairs nested rs cs ps rs' cs' ps' us →
        TermsStep table pairs nested (term_then rs cs ps (terms_append between (term_then rs' cs' ps' after))) (terms_append us (terms_append between after))
    later_term : {nested : Bool} {rs : Ranges} {cs : Conds} {ps : List Expr} {ts us : Terms} → TermsStep table pairs nested ts us → TermsStep table pairs nested (term_then rs cs ps ts) (term_then rs cs ps us)
    in_range : {nested : Bool} {rs rs' : Ranges} {cs : Conds} {ps : List Expr} {ts : Terms} → RangesStep table pairs rs rs' → TermsStep table pairs nested (term_then rs cs ps ts) (term_then rs' cs ps ts)
    in_cond : {nested : Bool} {rs : Ranges} {cs cs' : Conds} {ps : List Expr} {ts : Terms} → CondsStep table pairs cs cs' → TermsStep table pairs nested (term_then rs cs ps ts) (term_then rs cs' ps ts)

  pub data RangesStep (table : Table) (pairs : PairTable) : Ranges → Ranges → Type 0 where
    at_range : {h : List Part} {ts us : Terms} {rs : Ranges} → TermsStep table pairs true ts us → RangesStep table pairs (range_then (distinct_of h ts) rs) (range_then (distinct_of h us) rs)
    later_range : {r : FormRange} {rs rs' : Ranges} → RangesStep table pairs rs rs' → RangesStep table pairs (range_then r rs) (range_then r rs')

  pub data CondsStep (table : Table) (pairs : PairTable) : Conds → Conds → Type 0 where
    at_in : {x : Expr} {h : List Part} {ts us : Terms} {cs : Conds} → TermsStep table pairs true ts us → CondsStep table pairs (cond_then (is_in x h ts) cs) (cond_then (is_in x h us) cs)
    at_not_in : {x : Expr} {h : List Part} {ts us : Terms} {cs : Conds} → TermsStep table pairs true ts us → CondsStep table pairs (cond_then (not_in x h ts) cs) (cond_then (not_in x h us) cs)
    later_cond : {c : Cond} {cs cs' : Conds} → CondsStep table pairs cs cs' → CondsStep table pairs (cond_then c cs) (cond_then c cs')

-- g comes from f by one step
abbrev pub Step : Known → Form → Form → Type 0
Step K f g = (g.head ≡ f.head) × TermsStep (Row K) (PairRow K) false f.terms g.terms
