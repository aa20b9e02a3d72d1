-- Numbers of sections: the same names as in src/lib.rt.
use Rattle.std.specs.Prelude.{ℕ}

abbrev pub TYPE : ℕ
TYPE = 1

abbrev pub IMPORT : ℕ
IMPORT = 2

abbrev pub START : ℕ
START = 8

abbrev pub CODE : ℕ
CODE = 10

abbrev pub DATAS : ℕ
DATAS = 11

abbrev pub DATA_COUNT : ℕ
DATA_COUNT = 12

-- entries go to sections 0 to 11: each has its slot in the tally, and its part of the kept bytes
abbrev pub SECTIONS : ℕ
SECTIONS = 12
