-- Why an entry of the rules is refused (own).

-- the reasons, in the order in which an entry is tested for them
pub data Why : Type 0 where
  Shape : Why
  Spelling : Why
  Class : Why
  Phase : Why
  Strict : Why
  Long : Why
  Twice : Why
  Limit : Why
