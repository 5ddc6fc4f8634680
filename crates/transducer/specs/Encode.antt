-- A transducer's bytes, written. Assumes nothing: these are definitions.
use Rattle.std.specs.Prelude.{ℕ, List, [], ◌∷◌, ◌++◌, length}
use Rattle.wire.specs.Bytes.{low, signed_low}
use Rattle.transducer.specs.declared.Arc.{Arc}
use Rattle.transducer.specs.declared.Final.{Final}
use Rattle.transducer.specs.Format.{Transducer}
use Rattle.transducer.specs.Weight.{Weight}

-- The bytes of a weight.
unfoldable pub weight_bytes : Weight → List ℕ
weight_bytes w = signed_low w

unfoldable pub head_record : (states arcs finals start : ℕ) → List ℕ
head_record n m f s = low 2 8 ++ low 2 1 ++ low 2 n ++ low 2 m ++ low 2 f ++ low 2 s

unfoldable pub final_record : Final → List ℕ
final_record f = low 2 6 ++ low 2 2 ++ low 2 f.state ++ weight_bytes f.weight

unfoldable pub arc_record : Arc → List ℕ
arc_record a =
    low 2 12 ++ low 2 3 ++ low 2 a.source ++ low 2 a.input ++ low 2 a.output ++ low 2 a.target ++ weight_bytes a.weight

unfoldable pub final_records : List Final → List ℕ
final_records [] = []
final_records (f ∷ fs) = final_record f ++ final_records fs

unfoldable pub arc_records : List Arc → List ℕ
arc_records [] = []
arc_records (a ∷ as') = arc_record a ++ arc_records as'

unfoldable pub encode : Transducer → List ℕ
encode t =
    head_record t.states (length t.arcs) (length t.finals) t.start ++ final_records t.finals ++ arc_records t.arcs
