-- What a network goes by, as the rules have it. Assumes nothing.
use Rattle.model.specs.Paths.{path_over}
use Rattle.model.specs.Selection.{Choice, nothing, local, via}
use Rattle.selection.specs.declared.route.Route.{Route}
use Rattle.selection.specs.declared.route.Route.TheVariants.{Nothing, Local, Via}

abbrev pub meaning : Route → Choice
meaning Nothing = nothing
meaning Local = local
meaning (Via neighbour path) = via neighbour (path_over path.now)
