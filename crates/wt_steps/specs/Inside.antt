-- Steps inside one range or one condition alone. Only private contracts cite this file.
use Rattle.std.specs.Prelude.{◌≡◌, true}
use Rattle.wt_form.specs.Trees.{Terms, FormRange, Rel, distinct_of, Cond, Pred, Join, is_in, not_in}
use Rattle.wt_form.specs.Known.{Known}
use Rattle.wt_form.specs.Steps.{Row, PairRow, TermsStep}

-- a step inside a range: some terms of its form become others
abbrev pub RangeStep : Known → FormRange → FormRange → Type 0
RangeStep K (Rel r) s = ⊥
RangeStep K (distinct_of h ts) s = (us : Terms) × TermsStep (Row K) (PairRow K) true ts us × (s ≡ distinct_of h us)

-- a step inside a condition: likewise
abbrev pub CondStep : Known → Cond → Cond → Type 0
CondStep K (Pred p x) d = ⊥
CondStep K (Join x y) d = ⊥
CondStep K (is_in x h ts) d = (us : Terms) × TermsStep (Row K) (PairRow K) true ts us × (d ≡ is_in x h us)
CondStep K (not_in x h ts) d = (us : Terms) × TermsStep (Row K) (PairRow K) true ts us × (d ≡ not_in x h us)
