-- What the steps of `read_sound` say, one after the other: number 7; the names, with edition 1's V; the options' values; the build.
-- Assumes nothing.
use Rattle.std.specs.Prelude.{Ok, Err, Result}
use mathlib.Core.Path.{◌≡◌, refl, sym, ◌∙◌, ap}
use mathlib.Core.Bool.{not}
use mathlib.Core.List.{List, [], ◌∷◌}
use Prim.Native.Nat.{ℕ, ◌≤◌}
use native.Mathlib.Nat.{le_refl}
use native.Mathlib.Omega.{arith}
use lib.IntN.{ℤ}
use lib.ListN.{length, take, replicate, length-replicate}
use Rattle.lists.specs.First.{found_if}
use Rattle.lists.specs.Buffer.{over}
use Rattle.refusal.specs.Rules.{Verdict, rule, chain}
use Rattle.refusal.specs.declared.Refusal.{Refusal}
use Rattle.diagram.specs.Lent.{Lent, lent, lent_by, options}
use Rattle.diagram.specs.declared.Lists.{Lists}
use Rattle.diagram.specs.Numbers.{last_number, values}
use Rattle.diagram.specs.Sound.{Sound}
use Rattle.diagram.specs.Promise.{counts_of}
use Rattle.diagram.specs.declared.Diagram.{Diagram}
use Rattle.diagram.proofs.NumberLaws.{values_most}
use Rattle.judge.specs.Build.{Fits}
use Rattle.judge.specs.Promise.{allows_test}
use Rattle.clauses.specs.Clauses.{edition1, last_variable}
use Rattle.clauses.proofs.Edition1Sizes.{last_variable_is, variables_most}
use Rattle.naming.specs.Naming.{naming_rules, names_read}
use Rattle.naming.specs.Marks.{Marks}
use Rattle.naming.proofs.ReadLaws.{names_refused, names_passed}
use Rattle.model.specs.Rules.{build_of, sound_rules}
use Rattle.model.specs.Steps.{room_verdict, values_verdict, values_after, write_result, write_after}
use Rattle.model.proofs.ReadLaws.{same_verdict, same_after, sound_short, sound_long, names_refuse, unclear_refuse, values_built, values_fit, judge_decides, built_out}

-- where a build stands until it is known to be allowed
abbrev empty : List ℕ
empty = replicate 64 0

module _ (lists : Lists) (m : List ℤ) (out : List ℕ) (sound : Sound (lent_by lists)) where
  abbrev d : Lent
  d = lent_by lists

  abbrev ds : List ℕ
  ds = lists.domains.now

  abbrev ls : List ℕ
  ls = lists.layers.now

  abbrev ts : List ℕ
  ts = lists.targets.now

  -- edition 1's V
  abbrev V : ℕ
  V = last_variable edition1 d

  abbrev due : Verdict
  due = chain (sound_rules d m V (length out))

  abbrev front : List ℕ → List ℕ
  front build = take (length ds) build

  small : values d ≤ 2048
  small = values_most d sound.shaped (options d) (le_refl _)

  -- number 7
  pub room_refuses : {r : Refusal} → room_verdict (options d) (length out) ≡ Err r → due ≡ Err r
  room_refuses = sound_short d m V (length out)

  module _ (long : room_verdict (options d) (length out) ≡ Ok tt) where
    -- V and D
    module _ {counts : Diagram} (k : counts ≡ counts_of d) {last : ℕ} (l : last ≡ last_number counts.values counts.nodes counts.edges) where
      values_are : counts.values ≡ values d
      values_are = ap (λ (k : Diagram). k.values) k

      last_is : last ≡ V
      last_is = l ∙ ap (λ (k : Diagram). last_number k.values k.nodes k.edges) k ∙ sym (last_variable_is d)

      pub last_most : last ≤ 137218
      last_most = omega (arith, last_is, variables_most d sound.shaped)

      -- numbers 10 and 11
      module _ {names : Result (List ℕ) Refusal} (read : names ≡ names_read last counts.values m) where
        pub names_refuses : {r : Refusal} → names ≡ Err r → due ≡ Err r
        names_refuses q = sound_long d m V (length out) long ∙ names_refuse d m V (rw (last_is, values_are) at (names_refused _ _ m (omega (arith, last_most)) (omega (arith, values_are, small)) read q))

        pub names_pass : {marks : List ℕ} → names ≡ Ok marks → (chain (naming_rules V (values d) m) ≡ Ok tt) × Marks (values d) m (length m) marks
        names_pass q = rw (last_is, values_are) at (names_passed _ _ m (omega (arith, last_most)) (omega (arith, values_are, small)) read q)

    -- number 12
    module _ {marks : List ℕ} (named : (chain (naming_rules V (values d) m) ≡ Ok tt) × Marks (values d) m (length m) marks) (build : List ℕ) {read : Verdict} (verdict : read ≡ values_verdict (lent ds [] []) marks (length empty)) (after : build ≡ values_after (lent ds [] []) marks empty) where
      room : options d ≤ length empty
      room = omega (arith, length-replicate {A = ℕ} 64 0, sound.shaped.options_fit)

      verdict_is : read ≡ values_verdict d marks (length empty)
      verdict_is = verdict ∙ same_verdict ds ls ts marks (length empty)

      after_is : build ≡ values_after d marks empty
      after_is = after ∙ same_after ds ls ts marks empty

      pub values_refuses : {r : Refusal} → read ≡ Err r → due ≡ Err r
      values_refuses q = sound_long d m V (length out) long ∙ unclear_refuse d m V small named.0 named.1 empty room verdict_is after_is refl q

      module _ (q : read ≡ Ok tt) where
        pub fit : Fits d (front build)
        fit = values_fit d m V small named.0 named.1 empty room verdict_is after_is refl q

        -- number 13
        module _ {allowed : Verdict} (judged : allowed ≡ chain (rule 13 (found_if (not (allows_test d (front build))) 0) ∷ [])) where
          decides : allowed ≡ due
          decides = judge_decides d m V small named.0 named.1 empty room verdict_is after_is refl q judged ∙ sym (sound_long d m V (length out) long)

          pub judge_refuses : {r : Refusal} → allowed ≡ Err r → due ≡ Err r
          judge_refuses p = sym decides ∙ p

          -- none is due, and the build goes out
          pub none_due : allowed ≡ Ok tt → due ≡ Ok tt
          none_due p = sym decides ∙ p

          pub goes_out : {result : Result ℕ Refusal} {list : List ℕ} → length (front build) ≡ options d → result ≡ write_result (front build) out → list ≡ write_after (front build) out → (result ≡ Ok (options d)) × (list ≡ over (build_of d m) out)
          goes_out n e f = let w = built_out d m _ out long n (values_built d m V small named.0 named.1 empty room verdict_is after_is refl q) in (e ∙ w.0, f ∙ w.1)

-- number 13 of a diagram said in another way
pub judged_as : {d e : Lent} → e ≡ d → (build : List ℕ) {v : Verdict} → v ≡ chain (rule 13 (found_if (not (allows_test d build)) 0) ∷ []) → v ≡ chain (rule 13 (found_if (not (allows_test e build)) 0) ∷ [])
judged_as p build q = q ∙ ap (λ (f : Lent). chain (rule 13 (found_if (not (allows_test f build)) 0) ∷ [])) (sym p)
