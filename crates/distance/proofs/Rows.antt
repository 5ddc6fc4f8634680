-- A worked row: what a cell has that has no cost. Definition and code that are misread alike are refused here. Assumes nothing.
use mathlib.Core.Path.{◌≡◌, refl}
use Rattle.transducer.specs.Weight.{amount}
use Rattle.distance.specs.Distance.{no_path}

pub none_is : no_path ≡ amount 1000000000001
none_is = refl
