-- Demand 3 holds in whatever edition is "exactly one" and speaks of its own variables, and so in edition 1. Assumes nothing.
use mathlib.Core.Path.{refl}
use Rattle.cnf.specs.Clause.{given}
use Rattle.diagram.specs.Lent.{Lent, domain, chosen, Build}
use Rattle.diagram.specs.Sound.{Sound}
use Rattle.diagram.specs.Numbers.{first_value}
use Rattle.diagram.proofs.AllowsLaws.{Ranked, sound_ranked}
use Rattle.judge.specs.Build.{Fits}
use Rattle.judge.proofs.JudgeLaws.{allowed_exactly, not_allowed_exactly}
use Rattle.clauses.specs.Clauses.{Edition, edition1, first_helper, last_variable, clauses}
use Rattle.clauses.specs.Editions.{ExactlyOne, OwnVariables}
use Rattle.clauses.proofs.ExactlyOneLaws.{conflicts_in}
use Rattle.clauses.proofs.Common.{clauses_common}
use Rattle.clauses.proofs.Decided.{arrives, taken}
use Rattle.clauses.proofs.Satisfied.{clauses_meant}
use Rattle.clauses.proofs.LiteralLaws.{clauses_back}
use Rattle.clauses.proofs.Edition1.{edition1_one, edition1_own}
use Rattle.encoding.proofs.EncodeLaws.{encode_written}
use Rattle.demands.specs.Demand3.{Meaning, Demand3}
use Rattle.demands.specs.HalfFinished.{literal_out}
use Rattle.demands.proofs.Demand2.{exactly_the_list}
use Rattle.demands.proofs.Meaning.{meaning_of}
use Rattle.demands.proofs.Listed.{meaning_listed}

module _ (e : Edition) (one : ExactlyOne e) (d : Lent) (s : Sound d) where
  abbrev ok : Ranked d
  ok = sound_ranked d s

  with_functions : Meaning d (last_variable e d) (clauses e d) (Build d) (λ x. x)
  with_functions = meaning_of e one d ok (clauses e d) (clauses_common e d) (arrives d) (taken d) (clauses_meant one ok)

  with_lists : Meaning d (last_variable e d) (clauses e d) (Fits d) chosen
  with_lists = meaning_listed d ok with_functions

pub demand3 : (e : Edition) → ExactlyOne e → OwnVariables e → Demand3 e
demand3 e one own =
    record {
      with_lists = with_lists e one;
      with_functions = with_functions e one;
      written = λ d before answer after p t q.
          let w = (encode_written e d before answer after p t).0 q in
          let l = exactly_the_list e d before answer after p w.0.0 w.0.1 in
          rw w.1 (rw (l.the_words, clauses_back e d own w.0.0) (with_lists e one d w.0.0));
      judged_allowed = λ d build answer p q. let w = (allowed_exactly d build answer p).0 q in (with_lists e one d w.0.0).allowed build w.0.1 w.1;
      judged_not_allowed = λ d build answer p q. let w = (not_allowed_exactly d build answer p).0 q in (with_lists e one d w.0.0).not_allowed build w.0.1 w.1;
      option_out = λ d o i h f. conflicts_in one (first_value d i) (first_helper e d i) (domain d i) (λ c m. m) (λ j l. given (literal_out i j h l (f j l) refl));
    }

pub edition1_demand3 : Demand3 edition1
edition1_demand3 = demand3 edition1 edition1_one edition1_own
