-- The listing of a spool (rules, section 9).
-- Assumes nothing.
use Rattle.std.specs.Prelude.{ℕ, zero, suc, ◌+◌, ◌*◌, cond, List, [], ◌∷◌, ◌++◌, length, ltb}
use Rattle.records.specs.Faults.{frame_limit}
use Rattle.spool.specs.Open.{OpenSaid, opens, refuses_file, open_says}
use Rattle.spool.specs.Find.{FindSaid, finds, refuses_frame, find_says}
use Rattle.listing.specs.Text.{decimal}

-- The heading: the names of the eight fields, and a line feed.
abbrev pub heading : List ℕ
heading =
    102 ∷ 114 ∷ 97 ∷ 109 ∷ 101 ∷ 32 ∷ 111 ∷ 114 ∷ 100 ∷ 101 ∷ 114 ∷ 32 ∷ 107 ∷ 105 ∷ 110 ∷ 100 ∷ 32 ∷ 98 ∷ 105 ∷ 116 ∷ 115 ∷ 32 ∷ 119 ∷ 105 ∷ 100 ∷ 116 ∷ 104 ∷ 32
    ∷ 104 ∷ 101 ∷ 105 ∷ 103 ∷ 104 ∷ 116 ∷ 32 ∷ 99 ∷ 111 ∷ 112 ∷ 105 ∷ 101 ∷ 115 ∷ 32 ∷ 111 ∷ 102 ∷ 102 ∷ 115 ∷ 101 ∷ 116 ∷ 10 ∷ []

-- The word `refused` and a space.
abbrev pub refused_word : List ℕ
refused_word = 114 ∷ 101 ∷ 102 ∷ 117 ∷ 115 ∷ 101 ∷ 100 ∷ 32 ∷ []

-- Rule 9.4: numbers as the fields of a line.
abbrev pub fields : List ℕ → List ℕ
fields [] = []
fields (n ∷ []) = decimal n ++ (10 ∷ [])
fields (n ∷ m ∷ ns) = decimal n ++ (32 ∷ fields (m ∷ ns))

-- Rule 9.2: the line of frame k, found or refused.
abbrev pub line : ℕ → FindSaid → List ℕ
line k (finds s) =
    fields (k ∷ s.frame.order ∷ s.frame.kind ∷ s.frame.bits ∷ s.frame.width ∷ s.frame.height ∷ s.frame.copies ∷ s.frame.offset ∷ [])
line k (refuses_frame n s) = decimal k ++ (32 ∷ (refused_word ++ fields (n ∷ [])))

-- The lines of so many frames, the first of which is frame k.
unfoldable pub lines : List ℕ → ℕ → ℕ → List ℕ
lines file zero k = []
lines file (suc left) k = line k (find_says file k) ++ lines file left (k + 1)

-- Rules 9.2 and 9.3, by what Open answers.
abbrev pub spool_text : List ℕ → OpenSaid → List ℕ
spool_text file (opens count shop table) = heading ++ lines file count 0
spool_text file (refuses_file n) = refused_word ++ fields (n ∷ [])

-- Rule 9.1: the longest file that is listed; 15 comes before what Open answers.
abbrev pub input_limit : ℕ
input_limit = 65536

abbrev pub listing : List ℕ → List ℕ
listing file = cond (ltb input_limit (length file)) (refused_word ++ fields (15 ∷ [])) (spool_text file (open_says file))

-- Room for a line: three digits for the frame's number, ten for order and offset each, three for kind and bits, five for width, height
-- and copies, and a byte behind each of the eight.
abbrev pub line_room : ℕ
line_room = 52

-- Room for every listing: the heading, and a line for each of the most frames that a spool has.
abbrev pub listing_room : ℕ
listing_room = length heading + line_room * frame_limit
