-- Demand 1 holds: each entry point's own law. Assumes nothing.
use Rattle.clauses.specs.Clauses.{edition1}
use Rattle.diagram.proofs.CheckLaws.{check_exactly_when}
use Rattle.judge.proofs.JudgeLaws.{judge_exactly_when}
use Rattle.encoding.proofs.EncodeLaws.{encode_exactly_when, encode_keeps}
use Rattle.model.proofs.ModelLaws.{model_exactly_when, model_keeps}
use Rattle.dimacs.proofs.WriteLaws.{write_exactly_when, write_keeps}
use Rattle.dimacs.proofs.ReadLaws.{read_exactly_when, read_keeps}
use Rattle.diagram_file.proofs.ReadLaws.{file_exactly_when, file_keeps}
use Rattle.desk.proofs.DeskLaws.{is_short, short_exactly_when, short_keeps, prints}
use Rattle.demands.specs.Demand1.{Demand1}

pub demand1 : Demand1
demand1 =
    record {
      check = λ d a p. check_exactly_when d a p;
      judge = λ d build a p. judge_exactly_when d build a p;
      encode = λ d before a after p. record { exactly = encode_exactly_when edition1 d before a after p; keeps = encode_keeps edition1 d before a after p };
      read_model = λ d m before a after p. record { exactly = model_exactly_when d m edition1 before a after p; keeps = model_keeps d m edition1 before a after p };
      write_text = λ v ws before a after p. record { exactly = write_exactly_when v ws before a after p; keeps = write_keeps v ws before a after p };
      read_text = λ text before a after p. record { exactly = read_exactly_when text before a after p; keeps = read_keeps text before a after p };
      read_diagram = λ text before a after p. record { exactly = file_exactly_when text before a after p; keeps = file_keeps text before a after p };
      run_desk = λ input before a after p o bytes w. (record { exactly = short_exactly_when input before a after p w; keeps = short_keeps input before a after p w }, prints input before a after p w);
      printed = is_short;
    }
