-- What the lines of a rule file give, rule by rule.
use Rattle.std.proofs.Common.{◌≡◌, ◌≢◌, ℕ, suc, ◌+◌, ◌-◌, ◌<◌, ◌≤◌, Bool, true, false, List, [], ◌∷◌, ◌++◌, map, length, take, drop, Some, None, Ok, Err, refl, sym, ap, subst, ◌∙◌, inl, inr, arith, append_assoc, append-nil, length-append, length-drop}
use Rattle.std.specs.Prelude.{◌⊎◌, ◌==◌, if◌then◌else◌, nat_lt, Result}
use Rattle.std.specs.declared.option.Option.{Option}
use Rattle.std.proofs.lemmas.Grind.{common_steps}
use Rattle.std.proofs.lemmas.List.{drop_all, map-append}
use Rattle.wt_symbol.specs.Sides.{pair_of}
use Rattle.wt_rule.specs.declared.Rule.{Rule}
use Rattle.wt_rule.specs.declared.RuleBook.{RuleBook}
use Rattle.wt_rule_text.specs.declared.parsed.Version.{Version}
use Rattle.wt_rule_line.specs.declared.fault.RuleFault.{RuleFault}
use Rattle.wt_rule_line.specs.declared.fault.RuleFault.TheVariants as faults
use Rattle.wt_rule_line.specs.declared.fault.RuleFault.TheVariants.{Syntax, TooLong, NotProved, Count}
use Rattle.wt_rule_line.specs.declared.fault.RuleLineError.{RuleLineError}
use Rattle.wt_rule_line.specs.declared.fault.RuleLineError.TheVariants as lines
use Rattle.wt_rule_line.specs.Lines.{States, GivesRule}
use Rattle.wt_rule_file.specs.declared.fault.RuleError.{RuleError}
use Rattle.wt_rule_file.specs.declared.fault.RuleError.TheVariants.{Fault, Memory}
use Rattle.wt_rule_file.specs.declared.head.Head.{Head}
use Rattle.wt_rule_file.specs.declared.lines.LineAt.{LineAt}
use Rattle.wt_rule_file.specs.Files.{Line, put_before, lines_of, longest_line, most_rules, first_text, first_ended, behind_first, IsHead, Ends, StatesCount, RuleTree, rule_tree, IsRefusedRule, refused, not_proved, Give, no_end, many_rules, bad_end, wrong_end, the_end, bad_rule, a_rule, later_fault, AreRead, long_head, no_head, open_head, read, IsRead}
use Rattle.wt_rule_file.specs.Reading.{IsLineAt, IsFirstLine, Follow, EndsFile, IsUnproved, ReadsRule, IsNextRule, Verdict, VerdictAt, at_line, Reads, GivesHead}

-- ---- end lines

pub end_open : (text : List ℕ) (more : Bool) (count : ℕ) → EndsFile text false more count (Some Syntax)
end_open text more count v steps n ls short end follow = bad_end short end (inl refl)

pub end_unread : (text : List ℕ) (ended more : Bool) (count : ℕ) → ((m : ℕ) → StatesCount m text → ⊥) → EndsFile text ended more count (Some Syntax)
end_unread text ended more count none v steps n ls short end follow = bad_end short end (inr none)

pub end_wrong : (text : List ℕ) (more : Bool) (count m : ℕ) → StatesCount m text → ((m ≢ count) ⊎ (more ≡ true)) → EndsFile text true more count (Some Count)
end_wrong text more count m states (inl other) v steps n ls short end follow = wrong_end short refl states (inl other)
end_wrong text more count m states (inr is) v steps n ls short end follow = wrong_end short refl states (inr (follow.0 is))

pub end_right : (text : List ℕ) (more : Bool) (count m : ℕ) → StatesCount m text → m ≡ count → more ≡ false → EndsFile text true more count None
end_right text more count m states same nothing v steps n ls short end follow =
    let none : ls ≡ [] = follow.1 nothing in
    subst (λ l. Give v steps n count (record { text = text; ended = true } ∷ l) (Ok [])) (sym none) (the_end short refl (subst (λ k. StatesCount k text) same states))

-- ---- rules

pub unread : (v : Version) (steps : ℕ) (text : List ℕ) (e : RuleLineError) → GivesRule v text (Err e) → ReadsRule v steps (record { text = text; ended = true }) (Err e)
unread v steps text (lines.Fault f) is = refused refl is
unread v steps text lines.Memory is = tt

pub unproved_gives : (v : Version) (steps : ℕ) (text : List ℕ) (rule : Rule) (e : RuleLineError) → States v text (pair_of rule.pair) rule.set → IsUnproved rule steps (Some e) →
    ReadsRule v steps (record { text = text; ended = true }) (Err e)
unproved_gives v steps text rule (lines.Fault f) states (name, never) = subst (IsRefusedRule v steps (record { text = text; ended = true })) (sym name) (not_proved refl states never)
unproved_gives v steps text rule lines.Memory states is = tt

pub too_many : (v : Version) (steps count : ℕ) (line : Line) (more : Bool) → 65536 ≤ count → count ≤ 65536 → length line.text ≤ longest_line → (Ends line.text → ⊥) → Verdict v steps count line more (Err (lines.Fault TooLong))
too_many v steps count line more low high short middle n ls follow = many_rules short middle (omega arith)

pub rule_refused : (v : Version) (steps count : ℕ) (line : Line) (more : Bool) (e : RuleLineError) → length line.text ≤ longest_line → (Ends line.text → ⊥) → count < most_rules → ReadsRule v steps line (Err e) → Verdict v steps count line more (Err e)
rule_refused v steps count line more (lines.Fault f) short middle room is = λ n ls follow. bad_rule short middle room is
rule_refused v steps count line more lines.Memory short middle room is = tt

-- ---- lines by their places

put_some : (b : ℕ) (ls : List Line) → put_before b ls ≡ [] → ⊥
put_some b [] is = absurd (cc)
put_some b (l ∷ ls) is = absurd (cc)

some_by : (y : Bool) (b : ℕ) (bs : List ℕ) → (b == 10) ≡ y → lines_of (b ∷ bs) ≡ [] → ⊥
some_by true b bs test is =
    let e : record { text = []; ended = true } ∷ lines_of bs ≡ [] = sym (ap (λ y. if y then record { text = []; ended = true } ∷ lines_of bs else put_before b (lines_of bs)) test) ∙ is in absurd (cc)
some_by false b bs test is =
    put_some b (lines_of bs) (sym (ap (λ y. if y then record { text = []; ended = true } ∷ lines_of bs else put_before b (lines_of bs)) test) ∙ is)

lines_some : (t : List ℕ) → lines_of t ≡ [] → 0 < length t → ⊥
lines_some [] is l = omega arith
lines_some (b ∷ bs) is l = some_by (b == 10) b bs refl is

some_lines : (bytes : List ℕ) (at : ℕ) → at < length bytes → lines_of (drop at bytes) ≡ [] → ⊥
some_lines bytes at l none = lines_some (drop at bytes) none (omega (arith, length-drop at bytes))

pub followed : (bytes : List ℕ) (at : ℕ) (more : Bool) → more ≡ nat_lt at (length bytes) → Follow more (lines_of (drop at bytes))
followed bytes at more is = (
  λ here none. let l : at < length bytes = grind (arith, common_steps) in some_lines bytes at l none,
  λ past. let l : length bytes ≤ at = grind (arith, common_steps) in ap lines_of (drop_all at bytes l),
)

pub lift_ok : (v : Version) (steps count : ℕ) (bytes : List ℕ) (at : ℕ) (line : LineAt) (more : Bool) (o : Option Rule) → IsLineAt bytes at line → Follow more (lines_of (drop line.next bytes)) →
    Verdict v steps count (record { text = take (line.end - at) (drop at bytes); ended = line.ended }) more (Ok o) → VerdictAt v steps count (lines_of (drop at bytes)) (lines_of (drop line.next bytes)) (Ok o)
lift_ok v steps count bytes at line more (Some rule) is follow given = (record { text = take (line.end - at) (drop at bytes); ended = line.ended }, is.first, given)
lift_ok v steps count bytes at line more None is follow given = subst (λ l. Give v steps (count + 2) count l (Ok [])) (sym is.first) (given (count + 2) (lines_of (drop line.next bytes)) follow)

pub lift_err : (v : Version) (steps count : ℕ) (bytes : List ℕ) (at : ℕ) (line : LineAt) (more : Bool) (e : RuleLineError) → IsLineAt bytes at line → Follow more (lines_of (drop line.next bytes)) →
    Verdict v steps count (record { text = take (line.end - at) (drop at bytes); ended = line.ended }) more (Err e) → VerdictAt v steps count (lines_of (drop at bytes)) (lines_of (drop line.next bytes)) (Err (at_line e count))
lift_err v steps count bytes at line more (lines.Fault f) is follow given =
    (refl, subst (λ l. Give v steps (count + 2) count l (Err (f, count + 2))) (sym is.first) (given (count + 2) (lines_of (drop line.next bytes)) follow))
lift_err v steps count bytes at line more lines.Memory is follow given = tt

-- ---- rule after rule

-- rules before an answer
abbrev behind : List Rule → Result (List RuleTree) (RuleFault × ℕ) → Result (List RuleTree) (RuleFault × ℕ)
behind rules (Ok more) = Ok (map rule_tree rules ++ more)
behind rules (Err e) = Err e

-- what the rest gives behind the rules, all give with the rules before it
pub record SoFar (v : Version) (steps : ℕ) (all rest : List Line) (rules : List Rule) : Type 0 where
  pub few : length rules ≤ 65536
  pub gives : (answer : Result (List RuleTree) (RuleFault × ℕ)) → Give v steps (length rules + 2) (length rules) rest answer → Give v steps 2 0 all (behind rules answer)

none_before : (v : Version) (steps : ℕ) (all : List Line) (answer : Result (List RuleTree) (RuleFault × ℕ)) → Give v steps 2 0 all answer → Give v steps 2 0 all (behind [] answer)
none_before v steps all (Ok more) give = give
none_before v steps all (Err e) give = give

one_rule_more : (v : Version) (steps : ℕ) (all rest more : List Line) (rules new : List Rule) (rule : Rule) (line : Line) → new ≡ rules ++ rule ∷ [] → rest ≡ line ∷ more → IsNextRule v steps (length rules) line (rule_tree rule) →
    ((answer : Result (List RuleTree) (RuleFault × ℕ)) → Give v steps (length rules + 2) (length rules) rest answer → Give v steps 2 0 all (behind rules answer)) →
    (answer : Result (List RuleTree) (RuleFault × ℕ)) → Give v steps (suc (length rules + 2)) (suc (length rules)) more answer → Give v steps 2 0 all (behind new answer)
one_rule_more v steps all rest more rules new rule line is lines_are next gives (Ok trees) give =
    let longer : map rule_tree rules ++ rule_tree rule ∷ trees ≡ map rule_tree new ++ trees =
    sym (ap (λ l. map rule_tree l ++ trees) is ∙ ap (λ l. l ++ trees) (map-append rule_tree rules (rule ∷ [])) ∙ append_assoc (map rule_tree rules) (rule_tree rule ∷ []) trees) in
    subst (λ l. Give v steps 2 0 all (Ok l)) longer
    (gives (Ok (rule_tree rule ∷ trees)) (subst (λ l. Give v steps (length rules + 2) (length rules) l (Ok (rule_tree rule ∷ trees))) (sym lines_are) (a_rule next.short next.no_end next.room next.proved give)))
one_rule_more v steps all rest more rules new rule line is lines_are next gives (Err (f, k)) give =
    gives (Err (f, k)) (subst (λ l. Give v steps (length rules + 2) (length rules) l (Err (f, k))) (sym lines_are) (later_fault next.short next.no_end next.room next.proved give))

pub at_start : (v : Version) (steps : ℕ) (all : List Line) → SoFar v steps all all []
at_start v steps all = record { few = omega arith; gives = λ answer give. none_before v steps all answer give }

pub next_rule : (v : Version) (steps : ℕ) (all rest more : List Line) (rules new : List Rule) (rule : Rule) → new ≡ rules ++ rule ∷ [] → VerdictAt v steps (length rules) rest more (Ok (Some rule)) → SoFar v steps all rest rules →
    SoFar v steps all more new
next_rule v steps all rest more rules new rule is (line, lines_are, next) so_far =
    let count : length new ≡ suc (length rules) = omega (arith, ap length is, length-append rules (rule ∷ [])) in
    record {
      few = omega (arith, count, next.room);
      gives = λ answer give.
          let here : Give v steps (suc (length rules + 2)) (suc (length rules)) more answer = subst (λ k. Give v steps k (suc (length rules)) more answer) (let e : length new + 2 ≡ suc (length rules + 2) = omega (arith, count) in e)
          (subst (λ k. Give v steps (length new + 2) k more answer) count give) in
          one_rule_more v steps all rest more rules new rule line is lines_are next so_far.gives answer here;
    }

pub done : (v : Version) (steps : ℕ) (all rest more : List Line) (rules : List Rule) → VerdictAt v steps (length rules) rest more (Ok None) → SoFar v steps all rest rules → Reads v steps all (Ok rules)
done v steps all rest more rules give so_far = subst (λ l. Give v steps 2 0 all (Ok l)) (append-nil (map rule_tree rules)) (so_far.gives (Ok []) give)

pub failed : (v : Version) (steps : ℕ) (all rest more : List Line) (rules : List Rule) (e : RuleError) → VerdictAt v steps (length rules) rest more (Err e) → SoFar v steps all rest rules → Reads v steps all (Err e)
failed v steps all rest more rules (Fault f n) (place, give) so_far = so_far.gives (Err (f, n)) (subst (λ k. Give v steps k (length rules) rest (Err (f, n))) place give)
failed v steps all rest more rules Memory given so_far = tt

pub run_out : (v : Version) (steps : ℕ) (all rest : List Line) (rules : List Rule) → rest ≡ [] → SoFar v steps all rest rules → Reads v steps all (Err (Fault Count (length rules + 2)))
run_out v steps all rest rules none so_far = so_far.gives (Err (Count, length rules + 2)) (subst (λ l. Give v steps (length rules + 2) (length rules) l (Err (Count, length rules + 2))) (sym none) no_end)

-- ---- files

pub first_of_file : (bytes : List ℕ) (line : LineAt) → IsLineAt bytes 0 line → IsFirstLine bytes line
first_of_file bytes line is =
    let cut : line.end - 0 ≡ line.end = omega arith in
    record {
      ends = is.ends;
      text = ap first_text is.first ∙ ap (λ n. take n bytes) cut;
      ended = ap first_ended is.first;
      behind = ap behind_first is.first;
    }

pub first_of_none : (bytes : List ℕ) → lines_of bytes ≡ [] → IsFirstLine bytes (record { end = 0; next = 0; ended = false })
first_of_none bytes none = record { ends = omega arith; text = ap first_text none; ended = ap first_ended none; behind = ap behind_first none ∙ sym none }

pub book_read : (bytes : List ℕ) (line : LineAt) (head : Head) (rules : List Rule) (book : RuleBook) → book.steps ≡ head.steps → book.rules ≡ rules → IsFirstLine bytes line → GivesHead (lines_of bytes) (Ok head) →
    Reads head.version head.steps (lines_of (drop line.next bytes)) (Ok rules) → IsRead bytes (Ok book)
book_read bytes line head rules book steps are first (short, is_head, ended) reads =
    subst (λ l. AreRead (lines_of bytes) (Ok (record { steps = book.steps; rules = map rule_tree l }))) (sym are)
    (subst (λ k. AreRead (lines_of bytes) (Ok (record { steps = k; rules = map rule_tree rules }))) (sym steps)
    (read short is_head ended (subst (λ l. Give head.version head.steps 2 0 l (Ok (map rule_tree rules))) (sym first.behind) reads)))

pub rest_refused : (bytes : List ℕ) (line : LineAt) (head : Head) (e : RuleError) → IsFirstLine bytes line → GivesHead (lines_of bytes) (Ok head) → Reads head.version head.steps (lines_of (drop line.next bytes)) (Err e) → IsRead bytes (Err e)
rest_refused bytes line head (Fault f n) first (short, is_head, ended) reads = read short is_head ended (subst (λ l. Give head.version head.steps 2 0 l (Err (f, n))) (sym first.behind) reads)
rest_refused bytes line head Memory first given reads = tt

pub head_refused : (bytes : List ℕ) (e : RuleError) → GivesHead (lines_of bytes) (Err e) → IsRead bytes (Err e)
head_refused bytes (Fault f n) given = given
head_refused bytes Memory given = tt

pub head_long : (bytes text : List ℕ) (line : LineAt) → IsFirstLine bytes line → text ≡ take line.end bytes → 4096 < length text → AreRead (lines_of bytes) (Err (TooLong, 1))
head_long bytes text line first is long = long_head (subst (λ t. 4096 < length t) (is ∙ sym first.text) long)

pub head_none : (bytes text : List ℕ) (line : LineAt) → IsFirstLine bytes line → text ≡ take line.end bytes → length text ≤ 4096 → ((v : Version) (steps : ℕ) → IsHead v steps text → ⊥) → AreRead (lines_of bytes) (Err (faults.Head, 1))
head_none bytes text line first is short none =
    let same = is ∙ sym first.text in
    no_head (subst (λ t. length t ≤ 4096) same short) (λ v steps h. none v steps (subst (IsHead v steps) (sym same) h))

pub head_open : (bytes text : List ℕ) (line : LineAt) (head : Head) → IsFirstLine bytes line → text ≡ take line.end bytes → length text ≤ 4096 → IsHead head.version head.steps text → line.ended ≡ false → AreRead (lines_of bytes) (Err (Syntax, 1))
head_open bytes text line head first is short is_head unended =
    let same = is ∙ sym first.text in
    open_head (subst (λ t. length t ≤ 4096) same short) (subst (IsHead head.version head.steps) same is_head) (first.ended ∙ unended)

pub head_given : (bytes text : List ℕ) (line : LineAt) (head : Head) → IsFirstLine bytes line → text ≡ take line.end bytes → length text ≤ 4096 → IsHead head.version head.steps text → line.ended ≡ true → GivesHead (lines_of bytes) (Ok head)
head_given bytes text line head first is short is_head ended =
    let same = is ∙ sym first.text in
    (subst (λ t. length t ≤ 4096) same short, subst (IsHead head.version head.steps) same is_head, first.ended ∙ ended)
