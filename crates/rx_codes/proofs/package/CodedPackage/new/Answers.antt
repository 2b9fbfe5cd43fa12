use Rattle.std.proofs.Common.{◌≡◌, ◌<◌, ◌^◌, length, map, rules, arith}
use Rattle.std.specs.Arc.{arc_value}
use Rattle.rx_codes.specs.Codes.{symbols_for, with_objects}
use Rattle.rx_codes.proofs.ProgramLemmas.{program_kept, program_same}
use Rattle.rx_codes.proofs.package.CodedPackage.new.Goals as goal

pub invariant_of-result : goal.invariant_of-result
invariant_of-result c =
    let objects = arc_value c.in_ok-objects-2.objects in
    let classes = c.replace-classes.result in
    let known : objects ≡ symbols_for classes = search rules in
    let main_is : c.in_ok-main.main ≡ with_objects objects c.replace-main.result = search rules in
    let are : c.in_ok-bodies.bodies ≡ map (with_objects objects) c.replace-bodies.result = search rules in
    let few : length c.replace-bodies.result < 2 ^ 32 = omega arith in
    program_kept c.in_ok-main.main c.in_ok-bodies.bodies classes c.replace-routines.result c.in_ok-lines.lines objects c.replace-main.result
    c.replace-bodies.result known main_is are few

pub returns : goal.returns
returns c =
    let objects = arc_value c.in_ok-objects-2.objects in
    let main_is : c.in_ok-main.main ≡ with_objects objects c.args.written.main = search rules in
    let are : c.in_ok-bodies.bodies ≡ map (with_objects objects) c.args.written.bodies = search rules in
    let classes_are : c.replace-classes.result ≡ c.args.written.classes = search rules in
    let routines_are : c.replace-routines.result ≡ c.args.written.routines = search rules in
    let lines_are : c.in_ok-lines.lines ≡ c.args.written.lines = search rules in
    record {
      same = program_same c.args.written c.in_ok-main.main c.in_ok-bodies.bodies c.replace-classes.result c.replace-routines.result c.in_ok-lines.lines
          objects main_is are classes_are routines_are lines_are;
    }
