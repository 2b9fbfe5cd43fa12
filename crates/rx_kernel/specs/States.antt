-- The world for which a state of the code stands.
use Rattle.rx_machine.specs.World.{World, Ending, NoValue, Given, Failed}
use Rattle.rx_kernel.specs.declared.main_end.MainEnd.{MainEnd}
use Rattle.rx_kernel.specs.declared.main_end.MainEnd.TheVariants as main
use Rattle.rx_kernel.specs.declared.state.State.{State}
use Rattle.rx_kernel.specs.Readings.{reading}
use Rattle.rx_kernel.specs.Views.{activities_view}

abbrev pub ending_of : MainEnd → Ending
ending_of main.NoValue = NoValue
ending_of (main.Given value) = Given value
ending_of (main.Failed number) = Failed number

-- its frames tell by clauses what is still to be done
abbrev pub world_of : State → World
world_of state = record {
  program = state.program;
  arg = state.argument;
  budget = state.budget;
  activities = activities_view (reading state.program) state.parts.stacks;
  objects = state.parts.heap;
  pools = state.parts.pools;
  queue = state.queue;
  rest = state.lines;
  ended = state.ended;
  output = state.output.items;
  notes = state.notes.items;
  steps = state.steps;
  main = ending_of state.main;
}
