-- What an earlier and a later term give, by places.
use Rattle.std.specs.Prelude.{ℕ, ◌≡◌, ◌⊎◌, Bool, true, List, length}
use Rattle.wt_bag.specs.Choices.{At, drop_at}
use Rattle.wt_form.specs.declared.form.Expr.{Expr}
use Rattle.wt_form.specs.Trees.{Terms, term_then, Ranges, Conds, Cond}
use Rattle.wt_form.specs.Parts.{terms_append, conds_list}
use Rattle.wt_form.specs.Known.{Known}
use Rattle.wt_form.specs.Steps.{PairRow}
use Rattle.wt_form.specs.Views.{OneTerm, terms_from}
use Rattle.wt_congruent.specs.Refs.{TermIs}
use Rattle.wt_places.specs.Lists.{conds_from}
use Rattle.wt_places.specs.Gained.{Upto}
use Rattle.wt_two_terms.specs.Splits.{SplitBy}

-- the condition at place j of the second term splits the first, which has c beside the conditions cs
abbrev pub InnerAt : Known → OneTerm → Cond → Conds → OneTerm → Terms → List Cond → ℕ → Terms → Type 0
InnerAt K t c cs u rest ds j us = At (λ d. SplitBy K t c cs u d (drop_at j ds)) j ds × (us ≡ term_then t.ranges cs t.pieces rest)

-- some condition of the second term splits the first at place i
abbrev pub SplitAt : Known → OneTerm → List Cond → OneTerm → List Cond → Terms → ℕ → Terms → Type 0
SplitAt K t cs u ds rest i us = At (λ c. Upto (InnerAt K t c (conds_from (drop_at i cs)) u rest ds) (length ds) us) i cs

-- some condition of the second term splits the first
abbrev pub SplitFrom : Known → OneTerm → OneTerm → Terms → Terms → Type 0
SplitFrom K t u rest us = Upto (SplitAt K t (conds_list t.conds) u (conds_list u.conds) rest) (length (conds_list t.conds)) us

-- the second term is the same as the first, where it only counts which rows occur
abbrev pub TwinOf : Known → Bool → OneTerm → OneTerm → Terms → Terms → Type 0
TwinOf K nested t u rest us = (nested ≡ true) × TermIs K t u × (us ≡ term_then t.ranges t.conds t.pieces rest)

-- what two terms give before the rest
abbrev pub PairOf : Known → Bool → OneTerm → OneTerm → Terms → Terms → Type 0
PairOf K nested t u rest us = (SplitFrom K t u rest us ⊎ SplitFrom K u t rest us) ⊎ TwinOf K nested t u rest us

-- what the first term and the one at place k of the later ones give
abbrev pub PairAt : Known → Bool → OneTerm → List OneTerm → ℕ → Terms → Type 0
PairAt K nested t ts k us = At (λ u. PairOf K nested t u (terms_from (drop_at k ts)) us) k ts

-- a row of the table over the first term and a later one
abbrev pub TwoStep : Known → Bool → Ranges → Conds → List Expr → Terms → Terms → Type 0
TwoStep K nested rs cs ps ts us = (rs' : Ranges) × (cs' : Conds) × (ps' : List Expr) × (between : Terms) × (after : Terms) × (vs : Terms)
    × (ts ≡ terms_append between (term_then rs' cs' ps' after)) × PairRow K nested rs cs ps rs' cs' ps' vs × (us ≡ terms_append vs (terms_append between after))
