-- Each arm encodes by the kind that its variant stands for.
use Rattle.intaglio_encode.proofs.encode.encode_allowed.Goals as goal

pub returns-in-Text : goal.returns-in-Text
returns-in-Text g c = rw c.in-Text.is c.encode_by.ensures

pub returns-in-Bytes : goal.returns-in-Bytes
returns-in-Bytes g c = rw c.in-Bytes.is c.encode_by-in-Bytes.ensures

pub returns-in-BStr : goal.returns-in-BStr
returns-in-BStr g c = rw c.in-BStr.is c.encode_by-in-BStr.ensures

pub returns-in-CStr : goal.returns-in-CStr
returns-in-CStr g c = rw c.in-CStr.is c.encode_by-in-CStr.ensures

pub returns-in-OsStr : goal.returns-in-OsStr
returns-in-OsStr g c = rw c.in-OsStr.is c.encode_by-in-OsStr.ensures

pub returns-in-Path : goal.returns-in-Path
returns-in-Path g c = rw c.in-Path.is c.encode_by-in-Path.ensures
