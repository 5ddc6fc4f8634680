-- Inversion: the input and the output label exchanged on each arc (the field: the inverse of a transducer). Assumes nothing: these are definitions.
use Rattle.std.specs.Prelude.{map}
use Rattle.transducer.specs.declared.Arc.{Arc}
use Rattle.transducer.specs.Format.{Transducer}

unfoldable pub inverted_arc : Arc → Arc
inverted_arc a = record { source = a.source; input = a.output; output = a.input; target = a.target; weight = a.weight }

unfoldable pub inverted : Transducer → Transducer
inverted t = record { states = t.states; start = t.start; finals = t.finals; arcs = map inverted_arc t.arcs }
