-- `model_reader::read_sound` meets its contract, exit by exit. Assumes nothing.
use Rattle.std.proofs.Common.{sym, ◌∙◌, arith, ℕ}
use Rattle.std.proofs.lemmas.Result.{err_from_is_err_and}
use Rattle.std.proofs.Math.ListN.{length-replicate}
use Rattle.std.proofs.Math.Seq.{length-take-le}
use Rattle.model_reader.proofs.StepLaws.{room_refuses, last_most, names_refuses, names_pass, values_refuses, fit, judge_refuses, none_due, goes_out, judged_as}
use Rattle.model_reader.proofs.read_sound.Goals as goal

pub returns-in_err-check_room : goal.returns-in_err-check_room
returns-in_err-check_room c =
    let p = err_from_is_err_and c.from_residual.result c.from_residual.ensures.1 in
    let q = room_refuses c.diagram.inside.lists c.args.literals.now c.args.out.now c.diagram.invariant.0 (sym c.check_room.ensures ∙ c.in_err-check_room.was) in
    record { value = rw (← c.diagram.view_is, p.1, p.2, q); out_after = rw (← c.diagram.view_is, q) }

pub overflow_cast-last : goal.overflow_cast-last
overflow_cast-last c = omega (arith, last_most c.diagram.inside.lists c.args.literals.now c.args.out.now c.diagram.invariant.0 (sym c.check_room.ensures ∙ c.in_ok-check_room.was) c.diagram.invariant.1 c.variables-last.ensures)

pub returns-in_err-marks : goal.returns-in_err-marks
returns-in_err-marks c =
    let p = err_from_is_err_and c.from_residual-in_err-marks.result c.from_residual-in_err-marks.ensures.1 in
    let q = names_refuses c.diagram.inside.lists c.args.literals.now c.args.out.now c.diagram.invariant.0 (sym c.check_room.ensures ∙ c.in_ok-check_room.was) c.diagram.invariant.1 c.variables-last.ensures c.read_names.ensures c.in_err-marks.was in
    record { value = rw (← c.diagram.view_is, p.1, p.2, q); out_after = rw (← c.diagram.view_is, q) }

pub returns-in_err-read_values : goal.returns-in_err-read_values
returns-in_err-read_values c =
    let p = err_from_is_err_and c.from_residual-in_err-read_values.result c.from_residual-in_err-read_values.ensures.1 in
    let q = values_refuses c.diagram.inside.lists c.args.literals.now c.args.out.now c.diagram.invariant.0 (sym c.check_room.ensures ∙ c.in_ok-check_room.was) (names_pass c.diagram.inside.lists c.args.literals.now c.args.out.now c.diagram.invariant.0 (sym c.check_room.ensures ∙ c.in_ok-check_room.was) c.diagram.invariant.1 c.variables-last.ensures c.read_names.ensures c.in_ok-marks.was) _ c.read_values.ensures.value c.read_values.ensures.build_after c.in_err-read_values.was in
    record { value = rw (← c.diagram.view_is, p.1, p.2, q); out_after = rw (← c.diagram.view_is, q) }

pub judge_build-requires : goal.judge_build-requires
judge_build-requires c = rw (← c.diagram.view_is) (fit c.diagram.inside.lists c.args.literals.now c.args.out.now c.diagram.invariant.0 (sym c.check_room.ensures ∙ c.in_ok-check_room.was) (names_pass c.diagram.inside.lists c.args.literals.now c.args.out.now c.diagram.invariant.0 (sym c.check_room.ensures ∙ c.in_ok-check_room.was) c.diagram.invariant.1 c.variables-last.ensures c.read_names.ensures c.in_ok-marks.was) _ c.read_values.ensures.value c.read_values.ensures.build_after c.in_ok-read_values.was)

pub returns-in_err-judge_build : goal.returns-in_err-judge_build
returns-in_err-judge_build c =
    let p = err_from_is_err_and c.from_residual-in_err-judge_build.result c.from_residual-in_err-judge_build.ensures.1 in
    let q = judge_refuses c.diagram.inside.lists c.args.literals.now c.args.out.now c.diagram.invariant.0 (sym c.check_room.ensures ∙ c.in_ok-check_room.was) (names_pass c.diagram.inside.lists c.args.literals.now c.args.out.now c.diagram.invariant.0 (sym c.check_room.ensures ∙ c.in_ok-check_room.was) c.diagram.invariant.1 c.variables-last.ensures c.read_names.ensures c.in_ok-marks.was) _ c.read_values.ensures.value c.read_values.ensures.build_after c.in_ok-read_values.was (judged_as c.diagram.view_is _ c.judge_build.ensures) c.in_err-judge_build.was in
    record { value = rw (← c.diagram.view_is, p.1, p.2, q); out_after = rw (← c.diagram.view_is, q) }

pub returns : goal.returns
returns c =
    let q = none_due c.diagram.inside.lists c.args.literals.now c.args.out.now c.diagram.invariant.0 (sym c.check_room.ensures ∙ c.in_ok-check_room.was) (names_pass c.diagram.inside.lists c.args.literals.now c.args.out.now c.diagram.invariant.0 (sym c.check_room.ensures ∙ c.in_ok-check_room.was) c.diagram.invariant.1 c.variables-last.ensures c.read_names.ensures c.in_ok-marks.was) _ c.read_values.ensures.value c.read_values.ensures.build_after c.in_ok-read_values.was (judged_as c.diagram.view_is _ c.judge_build.ensures) c.in_ok-judge_build.was in
    let w = goes_out c.diagram.inside.lists c.args.literals.now c.args.out.now c.diagram.invariant.0 (sym c.check_room.ensures ∙ c.in_ok-check_room.was) (names_pass c.diagram.inside.lists c.args.literals.now c.args.out.now c.diagram.invariant.0 (sym c.check_room.ensures ∙ c.in_ok-check_room.was) c.diagram.invariant.1 c.variables-last.ensures c.read_names.ensures c.in_ok-marks.was) _ c.read_values.ensures.value c.read_values.ensures.build_after c.in_ok-read_values.was (judged_as c.diagram.view_is _ c.judge_build.ensures) (length-take-le _ _ (omega (arith, c.read_values.auto.build, length-replicate {A = ℕ} 64 0, c.diagram.invariant.0.shaped.options_fit))) c.write_build.ensures.value c.write_build.ensures.out_after in
    record { value = rw (← c.diagram.view_is, q, w.0); out_after = rw (← c.diagram.view_is, q, w.1) }
