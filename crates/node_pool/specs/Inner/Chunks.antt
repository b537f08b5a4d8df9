-- Chunks of 4,096 nodes, side by side.
--     blank                the node of zeros, which lies where no node was written yet
--     node_at nodes i      the node at the place i of a list; `blank` if the list is shorter
--     joined chunks        the nodes of the chunks, one chunk after another
--     AreWhole chunks      each chunk has 4,096 nodes
use Rattle.std.specs.Prelude.{ℕ, ◌≡◌, List, [], ◌∷◌, ◌++◌, length, get_or}
use Rattle.node_pool.specs.declared.Node.{Node}

abbrev pub blank : Node
blank = record { from = 0; to = 0; next_out = 0; prev_out = 0; next_in = 0; prev_in = 0 }

abbrev pub node_at : List Node → ℕ → Node
node_at nodes i = get_or nodes i blank

abbrev pub joined : List (List Node) → List Node
joined [] = []
joined (c ∷ cs) = c ++ joined cs

abbrev pub AreWhole : List (List Node) → Type 0
AreWhole [] = Unit {0}
AreWhole (c ∷ cs) = (length c ≡ 4096) × AreWhole cs
