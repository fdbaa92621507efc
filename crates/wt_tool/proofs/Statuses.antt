-- What the clause of a run says of its statuses one by one.
use Rattle.std.proofs.Common.{◌≡◌, ◌∙◌, ◌≢◌, ℕ, ◌≤◌, List, ◌⊎◌, ap, sym, subst, inl, inr, arith, rules}
use Rattle.std.proofs.lemmas.Bool.{true≢false}
use Rattle.std.proofs.lemmas.Result.{IfOk-from_err}
use Rattle.std.specs.Prelude.{Ok, Err, Some, None, IsErr, MatchResult, is_some}
use Rattle.std.specs.declared.option.Option.{Option}
use Rattle.wt_words.specs.declared.fault.UsageFault.{UsageFault}
use Rattle.wt_tool.specs.Answers.{Answers, CommandOutcome, RunTexts, WholeTexts, IsDiscovery, RunOutcome, usage}
use Rattle.wt_pair.specs.declared.bounds.Bounds.{Bounds}
use Rattle.wt_discovery.specs.Discovering.{IsDiscovered, WritesFile}
use Rattle.wt_outcome.specs.Outcomes.{AppendsPrefix, Ends, Outcome, Writes}
use Rattle.wt_words.specs.Commands.{Command, check, command_of, demo, discover, rewrite}
use Rattle.wt_demo.proofs.OneDemo.{prefix_of_demo}
use Rattle.wt_demo.proofs.Statuses.{demo_fine}
use Rattle.wt_discovery.proofs.Alone.{discovered_prefix}
use Rattle.wt_rewriting.proofs.Beginning.{prefix_of_checked, prefix_of_whole}
use Rattle.wt_rewriting.proofs.Statuses.{Fine, checking_fine, rewriting_fine}
use Rattle.wt_rewriting.specs.Files.{named}

-- what follows for the outcome holds of the outcome
of_command : (told : List ℕ → Option (List ℕ)) (P Q : Outcome → Type 0) → ((o : Outcome) → P o → Q o) → (command : Command) → CommandOutcome told P command → CommandOutcome told Q command
of_command told P Q f (rewrite rules schema queries) h = let (o, is, p) = h.4 in (h.0, h.1, h.2, h.3, (o, is, f o p))
of_command told P Q f (check name) h = (h.0, h.1, h.2, h.3, f h.2 h.4)
of_command told P Q f (demo first count) h = (h.0, h.1, f h.0 h.2)
of_command told P Q f (discover bounds workers) h = (h.0, h.1, f h.0 h.2)

of_run : (told : List ℕ → Option (List ℕ)) (words : List (List ℕ)) (P Q : Outcome → Type 0) → ((o : Outcome) → P o → Q o) → RunOutcome told words P → RunOutcome told words Q
of_run told words P Q f h =
    elim (command_of words) as (λ v. MatchResult v (CommandOutcome told P) (λ fault. P (usage fault)) → MatchResult v (CommandOutcome told Q) (λ fault. Q (usage fault))) [
      | Ok command ↦ λ k. of_command told P Q f command k
      | Err fault ↦ λ k. f (usage fault) k
    ] h

-- there is no status past 6
abbrev Few : Option ℕ → Type 0
Few None = Unit {0}
Few (Some n) = n ≤ 6

fine_few : (status : Option ℕ) → Fine status → Few status
fine_few None h = tt
fine_few (Some n) h = let few = h.0 in omega (arith, few)

same_status : (a b : ℕ) → Some a ≡ Some b → a ≡ b
same_status a b e = cc

zero_fine : Fine (Some 0)
zero_fine = (omega arith, (λ h. omega arith), (λ h. omega arith))

discovered_fine : (bounds : Bounds) (o : Outcome) → IsDiscovered bounds o → Fine o.status
discovered_fine bounds o (inl whole) = subst Fine (sym whole.1) zero_fine
discovered_fine bounds o (inr part) = subst (λ x. Fine x.status) (sym part.4) tt

-- what follows for every outcome of a command
any_command : (told : List ℕ → Option (List ℕ)) (P : Outcome → Type 0) (Q : Type 0) → ((o : Outcome) → Fine o.status → P o → Q) → (command : Command) → CommandOutcome told P command → Q
any_command told P Q f (rewrite rules schema queries) h = let (o, is, p) = h.4 in f o (rewriting_fine (named rules schema queries) h.0 h.1 h.2 o is) p
any_command told P Q f (check name) h = f h.2 (checking_fine name h.0 h.2 h.3) h.4
any_command told P Q f (demo first count) h = f h.0 (demo_fine first count h.0 h.1) h.2
any_command told P Q f (discover bounds workers) h = f h.0 (discovered_fine bounds h.0 h.1) h.2

-- what follows for every outcome
any_run : (told : List ℕ → Option (List ℕ)) (words : List (List ℕ)) (P : Outcome → Type 0) (Q : Type 0) → ((o : Outcome) → Few o.status → P o → Q) → RunOutcome told words P → Q
any_run told words P Q f h =
    elim (command_of words) as (λ v. MatchResult v (CommandOutcome told P) (λ fault. P (usage fault)) → Q) [
      | Ok command ↦ λ k. any_command told P Q (λ o small h. f o (fine_few o.status small) h) command k
      | Err fault ↦ λ k. f (usage fault) (omega arith) k
    ] h

module _ {told : List ℕ → Option (List ℕ)} {words : List (List ℕ)} {read write : Type 0} {old new : Option (List ℕ)} {s : ℕ} (h : Answers told words read write old new s) where
  pub bytes_of : s ≢ 3 → s ≢ 5 → s ≢ 6 → RunOutcome told words (λ o. Writes old new o s)
  bytes_of a b c = of_run told words (λ o. Ends read write old new o s) (λ o. Writes old new o s) (λ o ends. ends.done a b c) h.outcome

  pub read_of : s ≡ 3 → read × (new ≡ old)
  read_of e = any_run told words (λ o. Ends read write old new o s) (read × (new ≡ old)) (λ o small ends. ends.read e) h.outcome

  pub write_of : s ≡ 5 → write
  write_of e = any_run told words (λ o. Ends read write old new o s) write (λ o small ends. ends.write e) h.outcome

  pub prefix_of : (s ≡ 5) ⊎ (s ≡ 6) → RunOutcome told words (λ o. AppendsPrefix old new o.text)
  prefix_of e = of_run told words (λ o. Ends read write old new o s) (λ o. AppendsPrefix old new o.text) (λ o ends. ends.prefix e) h.outcome

  begun : (s ≡ 5) ⊎ (s ≡ 6) → (command : Command) → CommandOutcome told (λ o. Ends read write old new o s) command → WholeTexts told (AppendsPrefix old new) command
  begun e (rewrite rules schema queries) h =
      let (o, is, ends) = h.4 in
      (h.0, h.1, h.2, h.3, λ whole is_whole. prefix_of_whole (named rules schema queries) h.0 h.1 h.2 o whole is is_whole old new (ends.prefix e))
  begun e (check name) h = (h.0, h.1, λ whole is. prefix_of_checked name h.2 whole h.0 h.3 is old new (h.4.prefix e))
  begun e (demo first count) h = λ whole is. prefix_of_demo first count h.0 whole h.1 is old new (h.2.prefix e)
  begun e (discover bounds workers) h = λ file is. discovered_prefix bounds old new file h.0 h.1 is (h.2.prefix e)

  pub begins_of : (s ≡ 5) ⊎ (s ≡ 6) → RunTexts told words (AppendsPrefix old new)
  begins_of e =
      elim (command_of words) as (λ v. MatchResult v (CommandOutcome told (λ o. Ends read write old new o s)) (λ fault. Ends read write old new (usage fault) s) → MatchResult v (WholeTexts told (AppendsPrefix old new)) (λ fault. AppendsPrefix old new (usage fault).text)) [
        | Ok command ↦ λ k. begun e command k
        | Err fault ↦ λ k. k.prefix e
      ] h.outcome

  known : (o : Outcome) → Few o.status → Ends read write old new o s → s ≤ 6
  known o few ends =
      let done : s ≢ 3 → s ≢ 5 → s ≢ 6 → s ≤ 6 = λ a b c. subst Few (ends.done a b c).0 few in
      grind (arith, done)

  pub status_known : s ≤ 6
  status_known = any_run told words (λ o. Ends read write old new o s) (s ≤ 6) known h.outcome

  not_one : (o : Outcome) → Fine o.status → Ends read write old new o s → s ≢ 1
  not_one o small ends one = (subst Fine (ends.done (λ e. omega arith) (λ e. omega arith) (λ e. omega arith)).0 small).1 one

  pub usage_only : s ≡ 1 → IsErr (command_of words)
  usage_only e =
      elim (command_of words) as (λ v. MatchResult v (CommandOutcome told (λ o. Ends read write old new o s)) (λ fault. Ends read write old new (usage fault) s) → IsErr v) [
        | Ok command ↦ λ k. absurd (any_command told (λ o. Ends read write old new o s) (s ≢ 1) not_one command k e)
        | Err fault ↦ λ k. search rules
      ] h.outcome

  one_where : (fault : UsageFault) → Ends read write old new (usage fault) s → (s ≡ 1) ⊎ (s ≡ 3) ⊎ (s ≡ 5) ⊎ (s ≡ 6)
  one_where fault ends =
      let done : s ≢ 3 → s ≢ 5 → s ≢ 6 → 1 ≡ s = λ a b c. same_status 1 s (ends.done a b c).0 in
      grind (arith, done)

  pub usage_where : IsErr (command_of words) → (s ≡ 1) ⊎ (s ≡ 3) ⊎ (s ≡ 5) ⊎ (s ≡ 6)
  usage_where =
      elim (command_of words) as (λ v. MatchResult v (CommandOutcome told (λ o. Ends read write old new o s)) (λ fault. Ends read write old new (usage fault) s) → IsErr v → (s ≡ 1) ⊎ (s ≡ 3) ⊎ (s ≡ 5) ⊎ (s ≡ 6)) [
        | Ok command ↦ λ k refused. absurd (IfOk-from_err {T = Command} {E = UsageFault} (Ok command) (λ _. ⊥) refused)
        | Err fault ↦ λ k refused. one_where fault k
      ] h.outcome

  -- no status, so no end
  stopped : (o : Outcome) → o.status ≡ None → Writes old new o s → ⊥
  stopped o none done = true≢false (ap is_some (sym done.0 ∙ none))

  written : (bounds : Bounds) → (o : Outcome) × IsDiscovered bounds o × Writes old new o s → WritesFile bounds old new
  written bounds (o, inl whole, done) = (o.text, whole.0, done.1)
  written bounds (o, inr part, done) = absurd (stopped o (ap (λ (x : Outcome). x.status) part.4) done)

  pub file_of : (bounds : Bounds) → IsDiscovery words bounds → s ≡ 0 → WritesFile bounds old new
  file_of bounds (workers, is) e =
      written bounds (subst (λ v. MatchResult v (CommandOutcome told (λ o. Writes old new o s)) (λ fault. Writes old new (usage fault) s)) is (bytes_of (λ a. omega arith) (λ a. omega arith) (λ a. omega arith)))
