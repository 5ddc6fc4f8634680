-- How a state and a link are packed into a cell. A link is the number of an arc and one more, 0 for none. Assumes nothing: these are definitions.
use Rattle.std.specs.Prelude.{ℕ, ◌+◌, ◌*◌, ◌/◌, ◌%◌}

-- Links are below this.
abbrev pub links : ℕ
links = 4096

-- A cell as one number, and its parts again.
unfoldable pub cell_of : (state link : ℕ) → ℕ
cell_of s k = links * s + k

unfoldable pub state_of : (cell : ℕ) → ℕ
state_of c = c / links

unfoldable pub link_of : (cell : ℕ) → ℕ
link_of c = c % links
