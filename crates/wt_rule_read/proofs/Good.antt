-- The rules that are read hold.
use Rattle.std.proofs.Common.{ℕ, ◌≤◌, List, [], ◌∷◌, map, length, Ok, Err, subst}
use Rattle.std.specs.Prelude.{Result, IfOk}
use Rattle.std.proofs.lemmas.List.{length-map}
use Rattle.wt_bag.specs.Bags.{Each}
use Rattle.wt_rule.specs.declared.Rule.{Rule}
use Rattle.wt_rule.specs.declared.RuleBook.{RuleBook}
use Rattle.wt_rows.proofs.Composed.{provable_one_bag}
use Rattle.wt_chains.specs.Chains.{AreLawful, AreSound}
use Rattle.wt_rule_file.specs.declared.fault.RuleError.{RuleError}
use Rattle.wt_rule_file.specs.declared.fault.RuleError.TheVariants.{Fault, Memory}
use Rattle.wt_rule_file.specs.Files.{rule_tree, book_tree, IsRead}
use Rattle.wt_rule_file.specs.Good.{IsGoodWithin}
use Rattle.wt_rule_file.proofs.Answers.{good_rules, few_rules}
use Rattle.wt_rule_read.specs.Answers.{IsAnswer, Tells}

each_lawful : (steps : ℕ) (rules : List Rule) → Each (IsGoodWithin steps) (map rule_tree rules) → AreLawful rules
each_lawful steps [] h = tt
each_lawful steps (r ∷ rules) h = (h.0.lawful, each_lawful steps rules h.1)

each_sound : (steps : ℕ) (rules : List Rule) → Each (IsGoodWithin steps) (map rule_tree rules) → AreSound rules
each_sound steps [] h = tt
each_sound steps (r ∷ rules) h =
    ((λ I is meets. provable_one_bag (rule_tree r).pair h.0.lawful (rule_tree r).set I is meets steps h.0.proved), each_sound steps rules h.1)

pub rules_hold : (bytes : List ℕ) (book : RuleBook) → IsAnswer bytes (Ok book) → AreLawful book.rules × AreSound book.rules
rules_hold bytes book is = let good = good_rules bytes (book_tree book) is in (each_lawful book.steps book.rules good, each_sound book.steps book.rules good)

pub told : (bytes : List ℕ) (result : Result RuleBook RuleError) → IsRead bytes result → Tells bytes result
told bytes (Ok book) is = is
told bytes (Err (Fault fault line)) is = is
told bytes (Err Memory) is = tt

pub told_lawful : (bytes : List ℕ) (result : Result RuleBook RuleError) → IsRead bytes result → IfOk result (λ book. AreLawful book.rules)
told_lawful bytes (Ok book) is = (rules_hold bytes book is).0
told_lawful bytes (Err e) is = tt

pub told_sound : (bytes : List ℕ) (result : Result RuleBook RuleError) → IsRead bytes result → IfOk result (λ book. AreSound book.rules)
told_sound bytes (Ok book) is = (rules_hold bytes book is).1
told_sound bytes (Err e) is = tt

pub told_few : (bytes : List ℕ) (result : Result RuleBook RuleError) → IsRead bytes result → IfOk result (λ book. length book.rules ≤ 65536)
told_few bytes (Ok book) is = subst (λ n. n ≤ 65536) (length-map book.rules rule_tree) (few_rules bytes (book_tree book) is)
told_few bytes (Err e) is = tt
