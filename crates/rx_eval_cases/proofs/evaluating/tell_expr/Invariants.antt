use Rattle.rx_eval_cases.proofs.evaluating.tell_expr.Given as goal

abbrev pub ghosts-tell_all : goal.ghosts-tell_all
ghosts-tell_all a = record { name = a.blank.name; parts = a.blank.parts }

abbrev pub ghosts-evaluate_often : goal.ghosts-evaluate_often
ghosts-evaluate_often a = record { name = a.blank.name; parts = a.blank.parts }
